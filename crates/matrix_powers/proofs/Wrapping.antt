-- Products and sums of small numbers fit 128 bits.
use Rattle.std.proofs.Common.{◌≡◌, ℕ, ◌*◌, ◌^◌, ◌≤◌, arith, ap, ap₂, ◌∙◌, unsigned_abs}
use Rattle.std.proofs.Math.IntN.{ℤ, ◌+ℤ◌, ◌*ℤ◌}
use Rattle.std.proofs.lemmas.Int.{to_z-of_z, fits_signed_from_abs, unsigned_abs-mul}
use mir.Val.{SFits, of_z, to_z}
use mir.Syntax.{w128}
use Rattle.matrix_powers.proofs.Adding.{sum_abs}

pub fits : (z : ℤ) → unsigned_abs z ≤ 2 ^ 100 → SFits w128 z
fits z h = fits_signed_from_abs w128 z (omega (arith, h))

pub unwrapped : (z : ℤ) → unsigned_abs z ≤ 2 ^ 100 → to_z w128 (of_z w128 z) ≡ z
unwrapped z h = to_z-of_z w128 z (fits z h)

less_times : (m n a b : ℕ) → a ≤ m → b ≤ n → a * b ≤ m * n
less_times m n a b h k = grind arith

pub product_small : (a b : ℤ) → unsigned_abs a ≤ 2 ^ 40 → unsigned_abs b ≤ 2 ^ 40 → unsigned_abs (a *ℤ b) ≤ 2 ^ 80
product_small a b h k = omega (arith, unsigned_abs-mul a b, less_times (2 ^ 40) (2 ^ 40) (unsigned_abs a) (unsigned_abs b) h k)

pub product_fits : (a b : ℤ) → unsigned_abs a ≤ 2 ^ 40 → unsigned_abs b ≤ 2 ^ 40 → SFits w128 (to_z w128 (of_z w128 a) *ℤ to_z w128 (of_z w128 b))
product_fits a b h k = rw (unwrapped a (omega (arith, h))) (rw (unwrapped b (omega (arith, k))) (fits (a *ℤ b) (omega (arith, product_small a b h k))))

pub product_unwrapped : (a b : ℤ) → unsigned_abs a ≤ 2 ^ 40 → unsigned_abs b ≤ 2 ^ 40 → to_z w128 (of_z w128 (to_z w128 (of_z w128 a) *ℤ to_z w128 (of_z w128 b))) ≡ a *ℤ b
product_unwrapped a b h k = ap₂ (λ x y. to_z w128 (of_z w128 (x *ℤ y))) (unwrapped a (omega (arith, h))) (unwrapped b (omega (arith, k))) ∙ unwrapped (a *ℤ b) (omega (arith, product_small a b h k))

pub sum_unwrapped : (s r : ℤ) → unsigned_abs s ≤ 2 ^ 90 → unsigned_abs r ≤ 2 ^ 90 → to_z w128 (of_z w128 (s +ℤ to_z w128 (of_z w128 r))) ≡ s +ℤ r
sum_unwrapped s r h k = ap (λ x. to_z w128 (of_z w128 (s +ℤ x))) (unwrapped r (omega (arith, k))) ∙ unwrapped (s +ℤ r) (omega (arith, sum_abs s r, h, k))
