-- The held states are numbered one by one.
use Rattle.std.proofs.Common.{◌≡◌, ◌≢◌, ℕ, ◌+◌, ◌<◌, ◌≤◌, List, length, slice_index as at, slice_set, refl, sym, ap, ◌∙◌, arith, inl, inr, ◌⊎◌}
use Rattle.std.proofs.lemmas.Bool.{cases_eq, cases_lt}
use Rattle.std.proofs.lemmas.List.{length-set, get_or-set_same, get_or-set_other}
use Rattle.components.specs.Walking.{IsHeld, ArePlaced, AreListed, IsNumbering, IsListing}

pub numbering_more : (n : ℕ) (part place order : List ℕ) (held from k number state : ℕ) (after : List ℕ) → ArePlaced n part place order held → from ≤ k
    → k < held → state ≡ at order k → IsNumbering n part place from k number after → IsNumbering n part place from (k + 1) number (slice_set after state number)
numbering_more n part place order held from k number state after placed ge lt state_is old = record {
  long = length-set after state number ∙ old.long;
  inside = λ q low h over under. elim (cases_eq q state) [
    | inl e ↦ ap (at (slice_set after state number)) e ∙ here
    | inr ne ↦ else_is q ne ∙ old.inside q low h over (not_here q low h ne under (cases_lt (at place q) k))
  ];
  others = λ q low none. elim (cases_eq q state) [
    | inl e ↦ absurd (none (held_at q e) (omega (arith, ap (at place) e, place_is, ge)) (omega (arith, ap (at place) e, place_is)))
    | inr ne ↦ else_is q ne ∙ old.others q low (λ h over under. none h over (omega (arith, under)))
  ];
}
  where
    state_in : state < n
    state_in = omega (arith, state_is, placed.below k lt)

    place_is : at place state ≡ k
    place_is = ap (at place) state_is ∙ placed.back k lt

    held_at : (q : ℕ) → q ≡ state → IsHeld n part place q
    held_at q e = record {
      placed = omega (arith, ap (at place) e, place_is, lt, placed.few);
      unnumbered = omega (arith, ap (at part) (e ∙ state_is), placed.unnumbered k lt);
    }

    here : at (slice_set after state number) state ≡ number
    here = get_or-set_same after state number 0 (omega (arith, old.long, state_in))

    else_is : (q : ℕ) → q ≢ state → at (slice_set after state number) q ≡ at after q
    else_is q ne = get_or-set_other after state q number 0 ne

    not_here : (q : ℕ) → q < n → IsHeld n part place q → q ≢ state → at place q < k + 1 → (at place q < k) ⊎ (k ≤ at place q) → at place q < k
    not_here q low h ne under (inl less) = less
    not_here q low h ne under (inr more) =
        (let e : at place q ≡ k = omega (arith, more, under) in absurd (ne (sym (placed.there q low h) ∙ (ap (at order) e ∙ sym state_is))))

-- one state more has a number, which is no less than the others', and is listed
pub listed_more : (n : ℕ) (part finished : List ℕ) (done state number : ℕ) → length part ≡ n → length finished ≡ n → done < n → state < n
    → n ≤ at part state → number < n → ((q : ℕ) → q < n → at part q < n → at part q ≤ number) → AreListed n part finished done
    → AreListed n (slice_set part state number) (slice_set finished done state) (done + 1)
listed_more n part finished done state number part_long long room inside unnumbered fits low old = record {
  below = λ k lt. elim (cases_lt k done) [
    | inl under ↦ omega (arith, before k under, old.below k under)
    | inr over ↦ omega (arith, last k (omega (arith, over, lt)), inside)
  ];
  numbered = λ k lt. elim (cases_lt k done) [
    | inl under ↦ omega (arith, same k under, old.numbered k under)
    | inr over ↦ omega (arith, last_number k (omega (arith, over, lt)), fits)
  ];
  rising = λ j k less lt. elim (cases_lt k done) [
    | inl under ↦ omega (arith, same j (omega (arith, less, under)), same k under, old.rising j k less under)
    | inr over ↦ (let first : j < done = omega (arith, less, lt) in
        omega (arith, same j first, last_number k (omega (arith, over, lt)), low (at finished j) (old.below j first) (old.numbered j first)))
  ];
  all = λ q lt numbered. elim (cases_eq q state) [
    | inl e ↦ (done, omega arith, last done refl ∙ sym e)
    | inr ne ↦ (let one = old.all q lt (omega (arith, numbered, get_or-set_other part state q number 0 ne)) in
        (one.0, omega (arith, one.1), before one.0 one.1 ∙ one.2))
  ];
}
  where
    before : (k : ℕ) → k < done → at (slice_set finished done state) k ≡ at finished k
    before k lt = get_or-set_other finished done k state 0 (λ e. omega (arith, e, lt))

    last : (k : ℕ) → k ≡ done → at (slice_set finished done state) k ≡ state
    last k e = ap (at (slice_set finished done state)) e ∙ get_or-set_same finished done state 0 (omega (arith, room, long))

    same : (k : ℕ) → k < done → at (slice_set part state number) (at (slice_set finished done state) k) ≡ at part (at finished k)
    same k lt = ap (at (slice_set part state number)) (before k lt) ∙ get_or-set_other part state (at finished k) number 0
        (λ e. omega (arith, old.numbered k lt, unnumbered, ap (at part) e))

    last_number : (k : ℕ) → k ≡ done → at (slice_set part state number) (at (slice_set finished done state) k) ≡ number
    last_number k e = ap (at (slice_set part state number)) (last k e) ∙ get_or-set_same part state number 0 (omega (arith, inside, part_long))

pub listing_more : (n : ℕ) (part place order : List ℕ) (held from k number done state : ℕ) (after after_finished : List ℕ) (after_done : ℕ)
    → ArePlaced n part place order held → done + held ≤ n → number < n → from ≤ k → k < held → state ≡ at order k
    → IsListing n part place from k number done after after_finished after_done
    → IsListing n part place from (k + 1) number done (slice_set after state number) (slice_set after_finished after_done state) (after_done + 1)
listing_more n part place order held from k number done state after after_finished after_done placed room fits ge lt state_is old = record {
  numbering = numbering_more n part place order held from k number state after placed ge lt state_is old.numbering;
  long = length-set after_finished after_done state ∙ old.long;
  done_is = omega (arith, old.done_is);
  low = λ q low numbered. elim (cases_eq q state) [
    | inl e ↦ omega (arith, ap (at (slice_set after state number)) e, get_or-set_same after state number 0 (omega (arith, old.numbering.long, inside)))
    | inr ne ↦ (let same = get_or-set_other after state q number 0 ne in omega (arith, same, old.low q low (omega (arith, same, numbered))))
  ];
  listed = listed_more n after after_finished after_done state number old.numbering.long old.long
      (omega (arith, old.done_is, room, lt)) inside unnumbered fits old.low old.listed;
}
  where
    inside : state < n
    inside = omega (arith, state_is, placed.below k lt)

    unnumbered : n ≤ at after state
    unnumbered = omega (
      arith,
      old.numbering.others state inside (λ h over under. omega (arith, under, ap (at place) state_is, placed.back k lt)),
      ap (at part) state_is,
      placed.unnumbered k lt,
    )
