-- The parts of which a step leads from a state to one of the same part are marked, state by state.
use Rattle.std.proofs.Common.{◌≡◌, ℕ, ◌+◌, ◌<◌, Bool, true, false, List, slice_index as at, slice_set, sym, ap, ◌∙◌, subst, arith, inl, inr}
use Rattle.std.specs.List.{slice_index_or}
use Rattle.std.proofs.lemmas.Bool.{cases_eq, cases_lt}
use Rattle.std.proofs.lemmas.List.{length-set, get_or-set_same, get_or-set_other}
use Rattle.components.specs.Partings.{HasInner, MarksLoops}

pub marks_skip : (rows : List ℕ) (width : ℕ) (numbers : List ℕ) (count k : ℕ) (looping : List Bool) → (HasInner rows width numbers k width → ⊥)
    → MarksLoops rows width numbers count k looping → MarksLoops rows width numbers count (k + 1) looping
marks_skip rows width numbers count k looping none old = record {
  long = old.long;
  marked = λ j lt e. (let one = old.marked j lt e in (one.0, omega (arith, one.1), one.2, one.3));
  marks = λ q lt inner. elim (cases_lt q k) [
    | inl under ↦ old.marks q under inner
    | inr over ↦ (let e : q ≡ k = omega (arith, over, lt) in absurd (none (subst (λ q. HasInner rows width numbers q width) e inner)))
  ];
}

pub marks_more : (rows : List ℕ) (width : ℕ) (numbers : List ℕ) (count k number : ℕ) (looping : List Bool) → number ≡ at numbers k → number < count
    → HasInner rows width numbers k width → MarksLoops rows width numbers count k looping → MarksLoops rows width numbers count (k + 1)
    (slice_set looping number true)
marks_more rows width numbers count k number looping is below inner old = record {
  long = length-set looping number true ∙ old.long;
  marked = λ j lt e. elim (cases_eq j number) [
    | inl same ↦ (k, omega arith, sym is ∙ sym same, inner)
    | inr ne ↦ (let one = old.marked j lt (sym (get_or-set_other looping number j true false ne) ∙ e) in (one.0, omega (arith, one.1), one.2, one.3))
  ];
  marks = λ q lt inside. elim (cases_eq (at numbers q) number) [
    | inl same ↦ ap (λ j. slice_index_or (slice_set looping number true) j false) same ∙ get_or-set_same looping number true false
        (omega (arith, below, old.long))
    | inr ne ↦ elim (cases_lt q k) [
      | inl under ↦ get_or-set_other looping number (at numbers q) true false ne ∙ old.marks q under inside
      | inr over ↦ (let e : q ≡ k = omega (arith, over, lt) in absurd (ne (ap (at numbers) e ∙ sym is)))
    ]
  ];
}
