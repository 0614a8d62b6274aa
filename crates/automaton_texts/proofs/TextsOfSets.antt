-- Canonical tables of one base and number of tracks, under one list of variables, have one text exactly where their sets agree.
use Rattle.std.proofs.Common.{◌≡◌, ℕ, List, ap}
use Rattle.std.proofs.Math.IntN.{ℤ}
use Rattle.lash_model.specs.Formulas.{Sort}
use Rattle.lash_model.specs.Tables.{Table}
use Rattle.lash_model.specs.Standing.{StandsForWhole}
use Rattle.canonical_laws.specs.Canonical.{IsCanonical, AgreeOnWords}
use Rattle.canonical_laws.proofs.Carrying.{agreeing_same, same_agree}
use Rattle.automaton_texts.specs.Text.{text_of}
use Rattle.automaton_texts.proofs.TextReading.{texts_tell}

pub same_text : (vs : List (List ℕ × Sort)) (t u : Table) (P Q : List ℤ → ℕ → Type 0) → IsCanonical t → IsCanonical u → t.base ≡ u.base → t.tracks ≡ u.tracks → StandsForWhole t P → StandsForWhole u Q → AgreeOnWords t.base t.tracks P Q → text_of vs t ≡ text_of vs u
same_text vs t u P Q ct cu base tracks st su agree = ap (text_of vs) (agreeing_same t u P Q ct cu base tracks st su agree)

pub text_agrees : (vs : List (List ℕ × Sort)) (t u : Table) (P Q : List ℤ → ℕ → Type 0) → IsCanonical t → IsCanonical u → t.base ≡ u.base → t.tracks ≡ u.tracks → StandsForWhole t P → StandsForWhole u Q → text_of vs t ≡ text_of vs u → AgreeOnWords t.base t.tracks P Q
text_agrees vs t u P Q ct cu base tracks st su e = same_agree t u P Q st su (texts_tell vs t u ct.table cu.table ct.diagram cu.diagram base tracks e)
