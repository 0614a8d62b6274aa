-- A canonical table accepts the code of a vector of fractions exactly if the vector solves its set.
use Rattle.std.proofs.Common.{◌≡◌, ℕ, ◌≤◌, ◌<◌, Bool, false, true, List, length, inl, inr, ◌∙◌, sym, subst}
use Rattle.std.proofs.Math.IntN.{ℤ}
use Rattle.std.specs.Prelude.{All, IsTrue, ◌↔◌}
use Rattle.std.proofs.lemmas.Bool.{false≢true}
use Rattle.lash_model.specs.Formulas.{Sort, Formula}
use Rattle.lash_model.specs.Lassos.{IsLasso, numerators, denominator}
use Rattle.lash_model.specs.Meaning.{Solves}
use Rattle.lash_model.specs.Words.{values}
use Rattle.lash_model.specs.Tables.{Table, fracs, IsTable, IsDiagram}
use Rattle.lash_model.specs.Acceptance.{accepts_word, accepts_lasso}
use Rattle.lash_model.specs.Standing.{StandsForWhole, StandsForMixed, StandsFor, all_int}
use Rattle.fraction_codes.specs.Fractions.{IsSmall, IsWholeTimes}
use Rattle.fraction_codes.specs.declared.ratio.Ratio.{Ratio}
use Rattle.set_answers.specs.Vectors.{IsVectorOf, HasCoarseDenominator, IsAnswerToCode}
use Rattle.set_answers.proofs.SortKinds.{AreWhole, kind_of, of_sorts, kind_of_table}
use Rattle.set_answers.proofs.SamePoints.{SolvesAt, same_fractions_solve, of_one_list, spelled_vector}
use Rattle.set_answers.proofs.Solved.{of_word, of_lasso}
use Rattle.set_answers.proofs.WholeFractions.{same_solutions, solved_is_whole, whole_is_coarse}

-- ---- the code is accepted exactly if the vector solves the set
answered : (P : Type 0) (answer said : Bool) → answer ≡ said → IsTrue said ↔ P → IsTrue answer ↔ P
answered P answer said e h = (λ y. h.0 (sym e ∙ y), λ p. e ∙ h.1 p)

both_ways : (P Q R : Type 0) → P ↔ Q → R ↔ Q → P ↔ R
both_ways P Q R h k = (λ p. k.1 (h.0 p), λ r. h.1 (k.0 r))

diagram_member : (t : Table) (n : ℕ) (f : Formula) (vs : List Ratio) (answer : Bool) → length vs ≡ t.tracks → All IsSmall vs → All (IsWholeTimes 1) vs
    → IsAnswerToCode t vs answer
    → length vs ≡ n → StandsForWhole t (Solves (all_int n) f) → (ns : List ℤ) (d : ℕ) → IsVectorOf vs ns d → IsTrue answer ↔ Solves (all_int n) f ns d
diagram_member t n f vs answer count small whole h e s ns d v =
    both_ways (IsTrue answer) (Solves (all_int n) f (values t.base n h.lasso.sign h.lasso.whole) 1) (Solves (all_int n) f ns d)
    (answered (Solves (all_int n) f (values t.base n h.lasso.sign h.lasso.whole) 1) answer (accepts_word t h.lasso.sign h.lasso.whole) (h.of_word s.diagram)
    (of_word t n f (sym count ∙ e) s h.lasso.sign h.lasso.whole in_range.sign in_range.whole))
    (same_solutions t.base n f vs h.lasso ns d e small whole h.code v)
  where
    in_range : IsLasso t.base t.tracks h.lasso
    in_range = subst (λ k. IsLasso t.base k h.lasso) count h.code.code.in_range

mixed_member : (t : Table) (sorts : List Sort) (f : Formula) (vs : List Ratio) (answer : Bool) → 2 ≤ t.base → length vs ≡ t.tracks → All IsSmall vs
    → IsAnswerToCode t vs answer
    → length vs ≡ length sorts → StandsForMixed t (Solves sorts f) → (ns : List ℤ) (d : ℕ) → IsVectorOf vs ns d → IsTrue answer ↔ Solves sorts f ns d
mixed_member t sorts f vs answer low count small h e s ns d v =
    both_ways (IsTrue answer) (SolvesAt sorts f t.base h.lasso) (Solves sorts f ns d)
    (answered (SolvesAt sorts f t.base h.lasso) answer (accepts_lasso t h.lasso) (h.of_lasso s.fractions)
    (of_lasso t sorts f (sym count ∙ e) s h.lasso (subst (λ k. IsLasso t.base k h.lasso) count h.code.code.in_range)))
    (same_fractions_solve sorts f ns d (numerators t.base (length sorts) h.lasso) (denominator t.base h.lasso)
    (of_one_list vs ns d (numerators t.base (length sorts) h.lasso) (denominator t.base h.lasso) small v spelled))
  where
    spelled : IsVectorOf vs (numerators t.base (length sorts) h.lasso) (denominator t.base h.lasso)
    spelled = subst (λ k. IsVectorOf vs (numerators t.base k h.lasso) (denominator t.base h.lasso)) e
        (spelled_vector t.base vs h.lasso low h.code.code.in_range h.spells)

-- of either kind, if the fractions are whole or the table is no diagram
pub member_is : (t : Table) (sorts : List Sort) (f : Formula) (vs : List Ratio) (answer : Bool) → IsTable t → length vs ≡ t.tracks → All IsSmall vs
    → (IsDiagram t → All (IsWholeTimes 1) vs) → IsAnswerToCode t vs answer
    → length vs ≡ length sorts → StandsFor t sorts f → (ns : List ℤ) (d : ℕ) → IsVectorOf vs ns d → IsTrue answer ↔ Solves sorts f ns d
member_is t sorts f vs answer table count small whole h e s ns d v = elim (kind_of sorts) [
  | inl kind ↦ by_word kind (kind.stands t f s)
  | inr kind ↦ mixed_member t sorts f vs answer table.shape.base_low count small h e (kind.stands t f s) ns d v
]
  where
    by_word : AreWhole sorts → StandsForWhole t (Solves sorts f) → IsTrue answer ↔ Solves sorts f ns d
    by_word kind stands = of_sorts (λ ss. StandsForWhole t (Solves ss f) → IsTrue answer ↔ Solves ss f ns d) sorts kind.sorts_are
        (λ here. diagram_member t (length sorts) f vs answer count small (whole stands.diagram) h e here ns d v) stands

-- ---- the test that comes first: of a diagram whether the fractions are whole, and of any other table it lets all pass
-- what the test says of a table and a vector
pub record IsAdmitting (t : Table) (vs : List Ratio) (answer : Bool) : Type 0 where
  pub of_diagram : IsDiagram t → IsTrue answer ↔ All (IsWholeTimes 1) vs
  pub of_fractions : 0 < fracs t → IsTrue answer

pub whole_if_admitted : (t : Table) (vs : List Ratio) (answer : Bool) → IsAdmitting t vs answer → answer ≡ true → IsDiagram t → All (IsWholeTimes 1) vs
whole_if_admitted t vs answer h y none = (h.of_diagram none).0 y

pub coarse_if_admitted : (t : Table) (vs : List Ratio) (answer : Bool) → IsAdmitting t vs answer → answer ≡ true → (0 < fracs t → HasCoarseDenominator vs)
    → HasCoarseDenominator vs
coarse_if_admitted t vs answer h y coarse = elim (kind_of_table t) [ inl none ↦ whole_is_coarse vs ((h.of_diagram none).0 y) | inr some ↦ coarse some ]

-- a vector with an entry that is not whole is in no set of integers
pub no_member : (t : Table) (sorts : List Sort) (f : Formula) (vs : List Ratio) (answer : Bool) → IsAdmitting t vs answer → answer ≡ false → All IsSmall vs
    → length vs ≡ length sorts → StandsFor t sorts f → (ns : List ℤ) (d : ℕ) → IsVectorOf vs ns d → IsTrue false ↔ Solves sorts f ns d
no_member t sorts f vs answer h n small e s ns d v = elim (kind_of sorts) [
  | inl kind ↦ not_whole kind
  | inr kind ↦ absurd
      (false≢true (sym n ∙ h.of_fractions (kind.stands t f s).fractions))
]
  where
    not_whole : AreWhole sorts → IsTrue false ↔ Solves sorts f ns d
    not_whole kind = (
      λ y. absurd (false≢true y),
      λ z. absurd (false≢true (sym n ∙ (h.of_diagram (kind.stands t f s).diagram).1 (solved_is_whole sorts f vs ns d kind.sorts_are e small v z))),
    )
