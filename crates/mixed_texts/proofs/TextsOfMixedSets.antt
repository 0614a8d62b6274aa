-- Canonical tables with fraction states, of one base and number of tracks, under one list of variables, have one text exactly if their
-- sets agree.
use Rattle.std.proofs.Common.{◌≡◌, ℕ, List, ap}
use Rattle.std.proofs.Math.IntN.{ℤ}
use Rattle.lash_model.specs.Formulas.{Sort}
use Rattle.lash_model.specs.Tables.{Table}
use Rattle.lash_model.specs.Standing.{StandsForMixed}
use Rattle.part_laws.specs.CanonicalMixed.{IsCanonicalMixed, AgreeOnLassos}
use Rattle.part_laws.proofs.CanonicalSets.{one_mixed_table, one_mixed_set}
use Rattle.automaton_texts.specs.Text.{text_of}
use Rattle.mixed_texts.proofs.MixedTexts.{mixed_texts_tell}

pub one_mixed_text : (vs : List (List ℕ × Sort)) (t u : Table) (P Q : List ℤ → ℕ → Type 0) → IsCanonicalMixed t → IsCanonicalMixed u → t.base ≡ u.base
    → t.tracks ≡ u.tracks → StandsForMixed t P → StandsForMixed u Q → AgreeOnLassos t.base t.tracks P Q → text_of vs t ≡ text_of vs u
one_mixed_text vs t u P Q ct cu base tracks st su agree = ap (text_of vs) (one_mixed_table t u P Q ct cu base tracks st su agree)

pub mixed_text_agrees : (vs : List (List ℕ × Sort)) (t u : Table) (P Q : List ℤ → ℕ → Type 0) → IsCanonicalMixed t → IsCanonicalMixed u → t.base ≡ u.base
    → t.tracks ≡ u.tracks → StandsForMixed t P → StandsForMixed u Q → text_of vs t ≡ text_of vs u → AgreeOnLassos t.base t.tracks P Q
mixed_text_agrees vs t u P Q ct cu base tracks st su e =
    one_mixed_set t u P Q st su (mixed_texts_tell vs t u ct.table cu.table ct.fractions cu.fractions base tracks e)
