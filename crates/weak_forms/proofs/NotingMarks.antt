-- Marks are noted state by state, and colours are set state by state.
use Rattle.std.proofs.Common.{◌≡◌, ℕ, ◌+◌, ◌<◌, Bool, true, false, not, List, length, slice_index, slice_set, nat_eq, if◌then◌else◌, arith, inl, inr, refl, sym, ap, ◌∙◌, subst}
use Rattle.std.specs.List.{slice_index_or}
use Rattle.std.proofs.lemmas.Bool.{cases_eq, cases_lt}
use Rattle.std.proofs.lemmas.List.{length-set, get_or-set_same, get_or-set_other}
use Rattle.lash_model.specs.Tables.{Table, letters, fracs}
use Rattle.components.specs.Partings.{Parted, AreParts}
use Rattle.marked_laws.specs.Weakening.{HasMark, recoloured, IsWeakForm}
use Rattle.weak_forms.specs.Marking.{IsMarkOf, TellMarks, colour_of, AreColoured}

-- a colour that is not yes is no
pub no_colour : (x : ℕ) → x < 2 → nat_eq x 1 ≡ false → x ≡ 0
no_colour x lt e = grind arith

pub no_is_marked : (x : ℕ) → nat_eq x 1 ≡ true → x ≡ 0 → ⊥
no_is_marked x e f = grind arith

later : (t : Table) (numbers : List ℕ) (upto k : ℕ) → IsMarkOf t numbers upto k → IsMarkOf t numbers (upto + 1) k
later t numbers upto k m = record { state = m.state; low = omega (arith, m.low); here = m.here; marked = m.marked }

pub marks_skip : (t : Table) (p : Parted) (at : ℕ) (marks : List Bool) → nat_eq (slice_index t.colours at) 1 ≡ true → TellMarks t p at marks
    → TellMarks t p (at + 1) marks
marks_skip t p at marks clear h = record {
  long = h.long;
  has = λ k lt e. later t p.numbers at k (h.has k lt e);
  notes = λ q lt e. elim (cases_lt q at) [
    | inl under ↦ h.notes q under e
    | inr over ↦ absurd (no_is_marked (slice_index t.colours at) clear (subst (λ s. slice_index t.colours s ≡ 0) (omega (arith, over, lt)) e))
  ];
}

pub marks_more : (t : Table) (p : Parted) (at number : ℕ) (marks : List Bool) → slice_index t.colours at ≡ 0 → number ≡ slice_index p.numbers at
    → number < length p.looping → TellMarks t p at marks → TellMarks t p (at + 1) (slice_set marks number true)
marks_more t p at number marks marked is below h = record {
  long = length-set marks number true ∙ h.long;
  has = λ k lt e. elim (cases_eq k number) [
    | inl same ↦ record { state = at; low = omega arith; here = sym is ∙ sym same; marked = marked }
    | inr ne ↦ later t p.numbers at k (h.has k lt (sym (get_or-set_other marks number k true false ne) ∙ e))
  ];
  notes = λ q lt e. elim (cases_eq (slice_index p.numbers q) number) [
    | inl same ↦ ap (λ j. slice_index_or (slice_set marks number true) j false) same
        ∙ get_or-set_same marks number true false (omega (arith, below, h.long))
    | inr ne ↦ elim (cases_lt q at) [
      | inl under ↦ get_or-set_other marks number (slice_index p.numbers q) true false ne ∙ h.notes q under e
      | inr over ↦ (let same : q ≡ at = omega (arith, over, lt) in absurd (ne (ap (slice_index p.numbers) same ∙ sym is)))
    ]
  ];
}

-- ---- colours
pub coloured_more : (t : Table) (p : Parted) (marks : List Bool) (at : ℕ) (u v : Table) (noted : Bool) → at < fracs t
    → noted ≡ slice_index_or marks (slice_index p.numbers at) false → v ≡ recoloured u (slice_set u.colours at (if not noted then 1 else 0))
    → AreColoured t p marks at u → AreColoured t p marks (at + 1) v
coloured_more t p marks at u v noted lt is changed h = subst (λ w. AreColoured t p marks (at + 1) w) (sym changed) (record {
  same = ap (λ w. recoloured w (slice_set u.colours at (if not noted then 1 else 0))) h.same;
  count = length-set u.colours at (if not noted then 1 else 0) ∙ h.count;
  each = λ q q_in. elim (cases_eq q at) [
    | inl same ↦ ap (slice_index (slice_set u.colours at (if not noted then 1 else 0))) same
        ∙ get_or-set_same u.colours at (if not noted then 1 else 0) 0 (omega (arith, lt, h.count)) ∙ turned noted
        ∙ ap colour_of is ∙ ap (λ s. colour_of (slice_index_or marks (slice_index p.numbers s) false)) (sym same)
    | inr ne ↦ get_or-set_other u.colours at q (if not noted then 1 else 0) 0 ne ∙ h.each q (omega (arith, q_in, ne))
  ];
})
  where
    turned : (b : Bool) → (if not b then 1 else 0) ≡ colour_of b
    turned true = refl
    turned false = refl

colour_low : (b : Bool) → colour_of b < 2
colour_low true = omega arith
colour_low false = omega arith

colour_noted : (b : Bool) → colour_of b ≡ 0 → b ≡ true
colour_noted true e = refl
colour_noted false e = absurd (omega (arith, e))

pub weak_form : (t : Table) (p : Parted) (marks : List Bool) (u : Table) → AreParts t.frac_rows (letters t) (fracs t) p → TellMarks t p (fracs t) marks
    → AreColoured t p marks (fracs t) u → IsWeakForm t u
weak_form t p marks u parts m h = record {
  same = h.same;
  count = h.count;
  two = λ q lt. subst (λ c. c < 2) (sym (h.each q lt)) (colour_low (slice_index_or marks (slice_index p.numbers q) false));
  marked = λ q lt mark. h.each q lt ∙ ap colour_of
      (ap (λ k. slice_index_or marks k false) (sym (parts.one mark.state q mark.inside lt mark.in_part)) ∙ m.notes mark.state mark.inside mark.marked);
  found = λ q lt e. from q lt (m.has (slice_index p.numbers q) (parts.below q lt)
      (colour_noted (slice_index_or marks (slice_index p.numbers q) false) (sym (h.each q lt) ∙ e)));
}
  where
    from : (q : ℕ) → q < fracs t → IsMarkOf t p.numbers (fracs t) (slice_index p.numbers q) → HasMark t q
    from q lt k = record { state = k.state; inside = k.low; in_part = parts.numbers.one k.state q k.low lt k.here; marked = k.marked }
