-- The sum of the magnitudes of coefficients, from a place of their list on.
use Rattle.std.proofs.Common.{◌≡◌, ℕ, zero, suc, ◌+◌, ◌≤◌, ◌<◌, List, [], ◌∷◌, length, drop, get_or, ap, arith, refl, unsigned_abs}
use Rattle.std.proofs.Math.IntN.{ℤ}
use Rattle.std.proofs.lemmas.List.{drop_more}
use Rattle.lash_model.specs.Formulas.{coefficient_sum}

-- the magnitude there and the sum behind it
pub sum_from : (ts : List (ℕ × ℤ)) (i : ℕ) (d : ℕ × ℤ) (m : ℕ) → i < length ts → m ≡ unsigned_abs (get_or ts i d).1 → coefficient_sum (drop i ts) ≡ m + coefficient_sum (drop (i + 1) ts)
unfolding coefficient_sum
sum_from ts i d m lt is = rw is (ap coefficient_sum (drop_more ts i d lt))

pub sum_behind : (ts : List (ℕ × ℤ)) (i : ℕ) → length ts ≤ i → coefficient_sum (drop i ts) ≡ 0
unfolding coefficient_sum
sum_behind [] zero h = refl
sum_behind [] (suc i) h = refl
sum_behind (t ∷ ts) zero h = absurd (omega arith)
sum_behind (t ∷ ts) (suc i) h = sum_behind ts i (omega (arith, h))
