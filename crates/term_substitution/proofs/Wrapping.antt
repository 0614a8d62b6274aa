-- Sums and products of small numbers fit 128 bits.
use Rattle.std.proofs.Common.{◌≡◌, ℕ, ◌+◌, ◌*◌, ◌^◌, ◌≤◌, arith, ap, ap₂, ◌∙◌, unsigned_abs}
use Rattle.std.proofs.Math.IntN.{ℤ, ◌+ℤ◌, ◌*ℤ◌}
use Rattle.std.proofs.lemmas.Int.{ints, to_z-of_z, fits_signed_from_abs, unsigned_abs-mul}
use mir.Val.{SFits, of_z, to_z}
use mir.Syntax.{w128}

sum_abs : (a b : ℤ) → unsigned_abs (a +ℤ b) ≤ unsigned_abs a + unsigned_abs b
sum_abs a b = grind (arith, ints)

pub fits : (z : ℤ) → unsigned_abs z ≤ 2 ^ 114 → SFits w128 z
fits z h = fits_signed_from_abs w128 z (omega (arith, h))

pub unwrapped : (z : ℤ) → unsigned_abs z ≤ 2 ^ 114 → to_z w128 (of_z w128 z) ≡ z
unwrapped z h = to_z-of_z w128 z (fits z h)

less_times : (c a b : ℕ) → a ≤ b → c * a ≤ c * b
less_times c a b h = grind arith

-- a product is within the product of the bounds
pub product_abs : (a b : ℤ) (n : ℕ) → unsigned_abs b ≤ n → unsigned_abs (a *ℤ b) ≤ unsigned_abs a * n
product_abs a b n h = omega (arith, unsigned_abs-mul a b, less_times (unsigned_abs a) (unsigned_abs b) n h)

pub product_small : (a b : ℤ) → unsigned_abs a ≤ 2 ^ 24 → unsigned_abs b ≤ 2 ^ 88 → unsigned_abs (a *ℤ b) ≤ 2 ^ 114
product_small a b h k = omega (arith, product_abs a b (2 ^ 88) k, h)

pub product_unwrapped : (a b : ℤ) → unsigned_abs a ≤ 2 ^ 24 → unsigned_abs b ≤ 2 ^ 88 → to_z w128 (of_z w128 (to_z w128 (of_z w128 a) *ℤ to_z w128 (of_z w128 b))) ≡ a *ℤ b
product_unwrapped a b h k = ap₂ (λ x y. to_z w128 (of_z w128 (x *ℤ y))) (unwrapped a (omega (arith, h))) (unwrapped b (omega (arith, k))) ∙ unwrapped (a *ℤ b) (product_small a b h k)

-- a sum of a sum so far and one more
pub sum_fits : (s r : ℤ) → unsigned_abs s ≤ 2 ^ 112 → unsigned_abs r ≤ 2 ^ 112 → SFits w128 (s +ℤ to_z w128 (of_z w128 r))
sum_fits s r h k = rw (unwrapped r (omega (arith, k))) (fits (s +ℤ r) (omega (arith, sum_abs s r, h, k)))

pub sum_unwrapped : (s r : ℤ) → unsigned_abs s ≤ 2 ^ 112 → unsigned_abs r ≤ 2 ^ 112 → to_z w128 (of_z w128 (s +ℤ to_z w128 (of_z w128 r))) ≡ s +ℤ r
sum_unwrapped s r h k = ap (λ x. to_z w128 (of_z w128 (s +ℤ x))) (unwrapped r (omega (arith, k))) ∙ unwrapped (s +ℤ r) (omega (arith, sum_abs s r, h, k))
