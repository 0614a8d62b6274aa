-- Canonical tables are equal exactly if their sets agree, and so are their texts.
use Rattle.std.proofs.Common.{◌≡◌, ℕ, ◌^◌, ◌≤◌, ◌<◌, List, length, inl, inr, ◌∙◌, sym, ap, subst}
use Rattle.std.specs.Prelude.{◌↔◌}
use Rattle.std.proofs.lemmas.List.Elements.{recursion_from_All}
use Rattle.lash_model.specs.Formulas.{Sort, Formula}
use Rattle.lash_model.specs.Meaning.{Solves}
use Rattle.lash_model.specs.Words.{values}
use Rattle.lash_model.specs.Tables.{Table}
use Rattle.lash_model.specs.Standing.{StandsForWhole, StandsForMixed, StandsFor, all_int}
use Rattle.formula_core.specs.Variables.{sorts_of}
use Rattle.automaton_texts.specs.Text.{text_of}
use Rattle.canonical_laws.specs.Canonical.{IsCanonical, AgreeOnWords}
use Rattle.canonical_laws.proofs.Diagrams.{diagrams_unique}
use Rattle.canonical_laws.proofs.Carrying.{agreeing_accept, standing_agree}
use Rattle.automaton_texts.proofs.TextReading.{texts_tell}
use Rattle.part_laws.specs.CanonicalMixed.{IsCanonicalMixed, IsCanonicalTable, AgreeOnLassos}
use Rattle.part_laws.proofs.BothKinds.{canonical_diagram, canonical_fractions}
use Rattle.part_laws.proofs.CanonicalSets.{one_mixed_table, one_mixed_set}
use Rattle.mixed_texts.proofs.MixedTexts.{mixed_texts_tell}
use Rattle.set_answers.specs.Agreement.{Agree, IsCanonicalOf}
use Rattle.set_answers.proofs.SortKinds.{AreWhole, AreMixed, kind_of, of_sorts}
use Rattle.set_answers.proofs.SolvingWords.{word_of, values_vector}
use Rattle.set_answers.proofs.SamePoints.{agree_on_lassos, agree_from_lassos}

-- ---- sets that agree on words agree on vectors, and the other way round
agree_on_words : (base n : ℕ) (f g : Formula) → Agree (all_int n) f g → AgreeOnWords base n (Solves (all_int n) f) (Solves (all_int n) g)
agree_on_words base n f g a sign w h ls = a (values base n sign w) 1 (values_vector base n sign w)

agree_from_words : (base n : ℕ) (f g : Formula) → 2 ≤ base → AgreeOnWords base n (Solves (all_int n) f) (Solves (all_int n) g) → Agree (all_int n) f g
agree_from_words base n f g h a ns d v = (
  λ s. let x = word_of base n ns d h v s.1 in (x.same g).1 ((a x.sign x.word x.sign_below (recursion_from_All (λ l. l < base ^ n) x.word x.letters)).0
      ((x.same f).0 s)),
  λ s. let x = word_of base n ns d h v s.1 in (x.same f).1 ((a x.sign x.word x.sign_below (recursion_from_All (λ l. l < base ^ n) x.word x.letters)).1
      ((x.same g).0 s)),
)

-- ---- tables
diagrams_agree : (t u : Table) (n : ℕ) (f g : Formula) → IsCanonical t → IsCanonical u → t.base ≡ u.base → t.tracks ≡ n → u.tracks ≡ n
    → StandsForWhole t (Solves (all_int n) f) → StandsForWhole u (Solves (all_int n) g) → (t ≡ u) ↔ Agree (all_int n) f g
diagrams_agree t u n f g ct cu base left right sf sg = (
  λ e. agree_from_words t.base n f g ct.table.shape.base_low
      (subst (λ k. AgreeOnWords t.base k (Solves (all_int n) f) (Solves (all_int n) g)) left
      (standing_agree t (Solves (all_int n) f) (Solves (all_int n) g) sf (subst (λ v. StandsForWhole v (Solves (all_int n) g)) (sym e) sg))),
  λ a. diagrams_unique t u ct cu base (left ∙ sym right) (agreeing_accept t u (Solves (all_int n) f) (Solves (all_int n) g) base (left ∙ sym right) sf sg
      (subst (λ k. AgreeOnWords t.base k (Solves (all_int n) f) (Solves (all_int n) g)) (sym left) (agree_on_words t.base n f g a))),
)

mixed_tables_agree : (t u : Table) (sorts : List Sort) (f g : Formula) → IsCanonicalMixed t → IsCanonicalMixed u → t.base ≡ u.base
    → t.tracks ≡ length sorts → u.tracks ≡ length sorts
    → StandsForMixed t (Solves sorts f) → StandsForMixed u (Solves sorts g) → (t ≡ u) ↔ Agree sorts f g
mixed_tables_agree t u sorts f g ct cu base left right sf sg = (
  λ e. agree_from_lassos t.base sorts f g ct.table.shape.base_low
      (subst (λ k. AgreeOnLassos t.base k (Solves sorts f) (Solves sorts g)) left (one_mixed_set t u (Solves sorts f) (Solves sorts g) sf sg e)),
  λ a. one_mixed_table t u (Solves sorts f) (Solves sorts g) ct cu base (left ∙ sym right) sf sg
      (subst (λ k. AgreeOnLassos t.base k (Solves sorts f) (Solves sorts g)) (sym left) (agree_on_lassos t.base sorts f g ct.table.shape.base_low a)),
)

pub tables_agree : (t u : Table) (sorts : List Sort) (f g : Formula) → IsCanonicalTable t → IsCanonicalTable u → t.base ≡ u.base → t.tracks ≡ length sorts
    → u.tracks ≡ length sorts → StandsFor t sorts f → StandsFor u sorts g → (t ≡ u) ↔ Agree sorts f g
tables_agree t u sorts f g ct cu base left right of_t of_u = elim (kind_of sorts) [ inl kind ↦ by_words kind | inr kind ↦ by_lassos kind ]
  where
    by_words : AreWhole sorts → (t ≡ u) ↔ Agree sorts f g
    by_words kind =
        let sf : StandsForWhole t (Solves sorts f) = kind.stands t f of_t in
        let sg : StandsForWhole u (Solves sorts g) = kind.stands u g of_u in
        of_sorts (λ ss. StandsForWhole t (Solves ss f) → StandsForWhole u (Solves ss g) → (t ≡ u) ↔ Agree ss f g) sorts kind.sorts_are
        (diagrams_agree t u (length sorts) f g (canonical_diagram t ct sf.diagram) (canonical_diagram u cu sg.diagram) base left right) sf sg

    by_lassos : AreMixed sorts → (t ≡ u) ↔ Agree sorts f g
    by_lassos kind =
        let sf : StandsForMixed t (Solves sorts f) = kind.stands t f of_t in
        let sg : StandsForMixed u (Solves sorts g) = kind.stands u g of_u in
        mixed_tables_agree t u sorts f g (canonical_fractions t ct sf.fractions) (canonical_fractions u cu sg.fractions) base left right sf sg

-- ---- the canonical tables of two sets in one base
same_tables : (base : ℕ) (sorts : List Sort) (f g : Formula) (t u : Table) → IsCanonicalOf base sorts f t → IsCanonicalOf base sorts g u
    → (t ≡ u) ↔ Agree sorts f g
same_tables base sorts f g t u a b = tables_agree t u sorts f g a.canonical b.canonical (a.base_is ∙ sym b.base_is) a.tracks_are b.tracks_are a.stands b.stands

-- one text if the same vectors solve both sets
pub texts_equal : (base : ℕ) (vars : List (List ℕ × Sort)) (f g : Formula) (t u : Table) → IsCanonicalOf base (sorts_of vars) f t
    → IsCanonicalOf base (sorts_of vars) g u → Agree (sorts_of vars) f g → text_of vars t ≡ text_of vars u
texts_equal base vars f g t u a b h = ap (text_of vars) ((same_tables base (sorts_of vars) f g t u a b).1 h)

-- a text tells its table
one_table : (base : ℕ) (vars : List (List ℕ × Sort)) (f g : Formula) (t u : Table) → IsCanonicalOf base (sorts_of vars) f t
    → IsCanonicalOf base (sorts_of vars) g u → text_of vars t ≡ text_of vars u → t ≡ u
one_table base vars f g t u a b e = elim (kind_of (sorts_of vars)) [ inl kind ↦ of_diagrams kind | inr kind ↦ of_fractions kind ]
  where
    same_base : t.base ≡ u.base
    same_base = a.base_is ∙ sym b.base_is

    same_tracks : t.tracks ≡ u.tracks
    same_tracks = a.tracks_are ∙ sym b.tracks_are

    of_diagrams : AreWhole (sorts_of vars) → t ≡ u
    of_diagrams kind =
        let ct : IsCanonical t = canonical_diagram t a.canonical (kind.stands t f a.stands).diagram in
        let cu : IsCanonical u = canonical_diagram u b.canonical (kind.stands u g b.stands).diagram in
        texts_tell vars t u ct.table cu.table ct.diagram cu.diagram same_base same_tracks e

    of_fractions : AreMixed (sorts_of vars) → t ≡ u
    of_fractions kind =
        let ct : IsCanonicalMixed t = canonical_fractions t a.canonical (kind.stands t f a.stands).fractions in
        let cu : IsCanonicalMixed u = canonical_fractions u b.canonical (kind.stands u g b.stands).fractions in
        mixed_texts_tell vars t u ct.table cu.table ct.fractions cu.fractions same_base same_tracks e

-- and the other way round
pub sets_agree : (base : ℕ) (vars : List (List ℕ × Sort)) (f g : Formula) (t u : Table) → IsCanonicalOf base (sorts_of vars) f t
    → IsCanonicalOf base (sorts_of vars) g u → text_of vars t ≡ text_of vars u → Agree (sorts_of vars) f g
sets_agree base vars f g t u a b e = (same_tables base (sorts_of vars) f g t u a b).0 (one_table base vars f g t u a b e)
