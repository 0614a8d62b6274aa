-- The powers of the base, over the divisor: marks of those that were met, and the first that is met again.
use Rattle.std.proofs.Common.{◌≡◌, ◌≢◌, ℕ, zero, suc, ◌+◌, ◌-◌, ◌*◌, ◌%◌, ◌^◌, ◌≤◌, ◌<◌, ◌==◌, List, length, get_or, set, cond, add-one, arith, refl, ◌∙◌, sym, ap}
use Rattle.std.specs.Prelude.{slice_index}
use Rattle.std.specs.List.{count_by}
use mathlib.Core.Logic.{◌⊎◌, inl, inr}
use Rattle.std.proofs.Math.Nat.{pow-suc}
use Rattle.std.proofs.lemmas.Bool.{cases_lt, cases_eq}
use Rattle.std.proofs.lemmas.Bool.Decides.{nat_tests}
use Rattle.std.proofs.lemmas.Nat.{mul-mod_first, mod_below}
use Rattle.std.proofs.lemmas.List.{length-set, get_or-set_same, get_or-set_other}
use Rattle.std.proofs.lemmas.List.Sums.{sum_by-set}
use Rattle.fraction_codes.specs.Steps.{AreMarks, IsPowerTurn}

-- 1 for what is not marked
abbrev pub one_at_zero : ℕ → ℕ
one_at_zero m = cond (m == 0) 1 0

pub mark_next : (k : ℕ) → one_at_zero (k + 1) ≡ 0
mark_next k = grind (arith, nat_tests)

-- a mark more is a zero less
pub zeros_less : (marks : List ℕ) (i y : ℕ) → i < length marks → get_or marks i 0 ≡ 0 → one_at_zero y ≡ 0 → count_by (λ m. m == 0) (set marks i y) + 1 ≡ count_by (λ m. m == 0) marks
zeros_less marks i y h free mark =
    let both : count_by (λ m. m == 0) (set marks i y) + one_at_zero (get_or marks i 0) ≡ count_by (λ m. m == 0) marks + one_at_zero y = sum_by-set one_at_zero marks i y 0 h in
    let here : one_at_zero (get_or marks i 0) ≡ 1 = ap one_at_zero free in
    omega (arith, both, here, mark)

-- a power is a place of the marks
pub marks_inside : (r d k power : ℕ) (marks : List ℕ) → 0 < d → AreMarks r d k power marks → power < length marks
marks_inside r d k power marks h are = omega (arith, are.power_is, are.count, mod_below (r ^ k) d h)

-- a power that is not marked was not met before
pub marks_more : (r d k power : ℕ) (marks : List ℕ) → 0 < d → get_or marks power 0 ≡ 0 → AreMarks r d k power marks → AreMarks r d (k + 1) (power * r % d) (set marks power (k + 1))
marks_more r d k power marks h free are = record {
  count = length-set marks power (k + 1) ∙ are.count;
  power_is = ap (λ p. p * r % d) are.power_is ∙ mul-mod_first (r ^ k) r d ∙ ap (λ p. p % d) (next r k);
  marked = λ j l. by_place j l (cases_lt j k);
  met = λ v j l e. by_value v j l e (cases_eq v power);
  unmarked = one_less;
}
  where
    next : (r k : ℕ) → r ^ k * r ≡ r ^ (k + 1)
    next r k = sym (rw add-one (pow-suc r k))

    inside : power < length marks
    inside = omega (arith, are.power_is, are.count, mod_below (r ^ k) d h)

    other : (j : ℕ) → j < k → r ^ j % d ≢ power
    other j l e = absurd (omega (arith, are.marked j l, ap (λ p. slice_index marks p) e, free))

    by_place : (j : ℕ) → j < k + 1 → (j < k) ⊎ (k ≤ j) → slice_index (set marks power (k + 1)) (r ^ j % d) ≡ j + 1
    by_place j l (inl lt) = get_or-set_other marks power (r ^ j % d) (k + 1) 0 (other j lt) ∙ are.marked j lt
    by_place j l (inr ge) = let e : j ≡ k = omega (arith, l, ge) in ap (λ p. slice_index (set marks power (k + 1)) p) (ap (λ x. r ^ x % d) e ∙ sym are.power_is) ∙ get_or-set_same marks power (k + 1) 0 inside ∙ ap (λ x. x + 1) (sym e)

    by_value : (v j : ℕ) → v < d → slice_index (set marks power (k + 1)) v ≡ j + 1 → (v ≡ power) ⊎ (v ≢ power) → (j < k + 1) × (r ^ j % d ≡ v)
    by_value v j l e (inl same) =
        let here : k + 1 ≡ j + 1 = sym (get_or-set_same marks power (k + 1) 0 inside) ∙ ap (λ p. slice_index (set marks power (k + 1)) p) (sym same) ∙ e in
        (omega (arith, here), ap (λ x. r ^ x % d) (omega (arith, here)) ∙ sym are.power_is ∙ sym same)
    by_value v j l e (inr apart) =
        let old = are.met v j l (sym (get_or-set_other marks power v (k + 1) 0 apart) ∙ e) in
        (omega (arith, old.0), old.1)

    one_less : k + 1 + count_by (λ m. m == 0) (set marks power (k + 1)) ≡ d
    one_less = omega (arith, are.unmarked, zeros_less marks power (k + 1) inside free (mark_next k))

-- a marked power ends the search
pub record IsMet (r d k power m : ℕ) : Type 0 where
  pub below : m - 1 < k
  pub same : r ^ (m - 1) % d ≡ power

pub met_again : (r d k power : ℕ) (marks : List ℕ) → 0 < d → get_or marks power 0 ≢ 0 → AreMarks r d k power marks → IsMet r d k power (get_or marks power 0)
met_again r d k power marks h marked are = let old = are.met power (get_or marks power 0 - 1) (omega (arith, are.power_is, mod_below (r ^ k) d h)) one_more in record { below = old.0; same = old.1 }
  where
    one_more : slice_index marks power ≡ get_or marks power 0 - 1 + 1
    one_more = by (get_or marks power 0) marked
      where
        by : (m : ℕ) → m ≢ 0 → m ≡ m - 1 + 1
        by zero h = absurd (h refl)
        by (suc m) h = omega arith

pub turn_is : (r d k power : ℕ) (marks : List ℕ) → 0 < d → get_or marks power 0 ≢ 0 → AreMarks r d k power marks → IsPowerTurn r d (record { stem = get_or marks power 0 - 1; cycle = k - (get_or marks power 0 - 1) })
turn_is r d k power marks h marked are = let met = met_again r d k power marks h marked are in record {
  turns = omega (arith, met.below);
  again = ap (λ x. r ^ x % d) (whole (get_or marks power 0 - 1) k met.below) ∙ sym are.power_is ∙ sym met.same;
  distinct = λ i j l below same. absurd (apart i j l (less (get_or marks power 0 - 1) k j met.below below) same);
}
  where
    whole : (s k : ℕ) → s < k → s + (k - s) ≡ k
    whole s k h = omega (arith, h)

    less : (s k j : ℕ) → s < k → j < s + (k - s) → j < k
    less s k j h l = omega (arith, h, l)

    apart : (i j : ℕ) → i < j → j < k → r ^ i % d ≡ r ^ j % d → ⊥
    apart i j l below same = omega (arith, l, are.marked i (omega (arith, l, below)), are.marked j below, ap (slice_index marks) same)
