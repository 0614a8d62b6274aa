-- The first coefficients of a term can be added.
use Rattle.std.proofs.Common.{◌≡◌, ℕ, ◌^◌, ◌≤◌, List, [], arith, nat_eq, unsigned_abs}
use Rattle.std.proofs.Math.IntN.{ℤ, ◌+ℤ◌}
use Rattle.formula_core.specs.Terms.{coefficient_at, added}
use Rattle.term_substitution.proofs.Weighing.{sum_abs, coefficient_within, added_weight, where_less, nothing}

pub first_fits : (ts : List (ℕ × ℤ)) (place : ℕ) (a : ℤ) → ts ≡ [] → unsigned_abs a ≤ 2 ^ 88 → unsigned_abs (coefficient_at ts place +ℤ a) ≤ 2 ^ 113
first_fits ts place a is h = rw is (omega (arith, sum_abs (coefficient_at [] place) a, coefficient_within [] place, nothing place, h))

pub second_fits : (ts : List (ℕ × ℤ)) (first place : ℕ) (a b : ℤ) → ts ≡ added [] first a → unsigned_abs a ≤ 2 ^ 88 → unsigned_abs b ≤ 2 ^ 88 → unsigned_abs (coefficient_at ts place +ℤ b) ≤ 2 ^ 113
second_fits ts first place a b is h k = rw is (omega (arith, sum_abs (coefficient_at (added [] first a) place) b, coefficient_within (added [] first a) place, added_weight [] first a place, where_less (nat_eq first place) (unsigned_abs a), nothing place, h, k))
