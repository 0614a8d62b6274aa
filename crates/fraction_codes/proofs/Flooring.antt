-- Floors of fractions and what is above them.
use Rattle.std.proofs.Common.{◌≡◌, ℕ, suc, ◌+◌, ◌-◌, ◌*◌, ◌/◌, ◌%◌, ◌<◌, arith, refl, ◌∙◌, sym, ap, subst}
use Rattle.std.proofs.Math.IntN.{ℤ, pos, negsuc, ◌+ℤ◌, ◌-ℤ◌, ◌*ℤ◌}
use Rattle.std.specs.Prelude.{◌≤ℤ◌, ◌<ℤ◌, unsigned_abs}
use Rattle.std.specs.Int.{int_div_euclid, int_rem_euclid}
use Prim.Native.Nat.{◌∣◌}
use Rattle.std.proofs.Math.Nat.{dvd-mul_right, dvd-add_iff_left, dvd-add_iff_right}
use Rattle.std.proofs.lemmas.Int.{ints}
use Rattle.std.proofs.lemmas.Nat.{div-add-mod', mod_below}
use Rattle.integer_laws.specs.Differences.{diff}
use Rattle.integer_laws.proofs.Ring.{diff_same, diff_add, diff_mul, pos_diff}
use Rattle.fraction_codes.specs.Fractions.{sign_of}
use Rattle.fraction_codes.specs.Steps.{sign_distance, raised}
use Rattle.fraction_codes.proofs.Divisors.{multiple}

-- the floor has the sign of the number
pub floor_sign : (z w : ℤ) → (pos 1) ≤ℤ w → sign_of (int_div_euclid z w) ≡ sign_of z
floor_sign (pos a) (pos b) h = refl
floor_sign (negsuc a) (pos b) h = refl
floor_sign z (negsuc b) h = absurd (omega (arith, ints, h))

-- a number is from minus p up to p exactly where its distance from the first of its sign is below p
pub record IsInside (p : ℕ) (z : ℤ) : Type 0 where
  pub low : (pos 0 -ℤ pos p) ≤ℤ z
  pub high : z <ℤ (pos p)

pub inside_is : (p : ℕ) (z : ℤ) → sign_distance z < p → IsInside p z
inside_is p (pos n) h = record { low = omega (arith, ints, h); high = omega (arith, ints, h) }
inside_is p (negsuc n) h = record { low = omega (arith, ints, h); high = omega (arith, ints, h) }

pub distance_inside : (p : ℕ) (z : ℤ) → (pos 0 -ℤ pos p) ≤ℤ z → z <ℤ (pos p) → sign_distance z < p
distance_inside p (pos n) l h = omega (arith, ints, l, h)
distance_inside p (negsuc n) l h = omega (arith, ints, l, h)

-- a number that was moved up under its sign
pub lowered : (p : ℕ) (z : ℤ) → sign_distance z < p → pos (raised p z) -ℤ pos (sign_of z * p) ≡ z
lowered p (pos n) h = omega (arith, ints, h)
lowered p (negsuc n) h = omega (arith, ints, h)

pub raised_below : (p : ℕ) (z : ℤ) → sign_distance z < p → raised p z < p
raised_below p (pos n) h = h
raised_below p (negsuc n) h = omega (arith, h)

negsuc_diff : (n : ℕ) → negsuc n ≡ diff 0 (n + 1)
unfolding diff
negsuc_diff n = omega (arith, ints)

neg_split : (q d t u n : ℕ) → q * d + t ≡ n → u + suc t ≡ d → (negsuc q *ℤ pos d) +ℤ pos u ≡ negsuc n
neg_split q d t u n e f = ap (λ x. (x *ℤ pos d) +ℤ pos u) (negsuc_diff q) ∙ step ∙ sym (negsuc_diff n)
  where
    step : (diff 0 (q + 1) *ℤ pos d) +ℤ pos u ≡ diff 0 (n + 1)
    step = simp (pos_diff, diff_add, diff_mul) (diff_same _ _ _ _ (omega (arith, e, f)))

positive : (b : ℕ) → (pos 1) ≤ℤ (pos b) → 0 < b
positive b h = omega (arith, ints, h)

turned_rest : (a b : ℕ) → 0 < b → b - 1 - a % b + suc (a % b) ≡ b
turned_rest a b h = omega (arith, mod_below a b h)

-- a number is its floor times the denominator and what is above
pub floor_parts : (z w : ℤ) → (pos 1) ≤ℤ w → z ≡ (int_div_euclid z w *ℤ w) +ℤ pos (unsigned_abs (int_rem_euclid z w))
floor_parts (pos a) (pos b) h = ap pos (sym (div-add-mod' a b))
floor_parts (negsuc a) (pos b) h = sym (neg_split (a / b) b (a % b) (b - 1 - a % b) a (div-add-mod' a b) (turned_rest a b (positive b h)))
floor_parts z (negsuc b) h = absurd (omega (arith, ints, h))

pub above_below : (z w : ℤ) → (pos 1) ≤ℤ w → unsigned_abs (int_rem_euclid z w) < unsigned_abs w
above_below (pos a) (pos b) h = mod_below a b (positive b h)
above_below (negsuc a) (pos b) h = omega (arith, positive b h)
above_below z (negsuc b) h = absurd (omega (arith, ints, h))

parted : (a b k : ℕ) → a * k ≡ b * (a / b * k) + a % b * k
parted a b k = ap (λ x. x * k) (sym (div-add-mod' a b)) ∙ shared (a / b) b (a % b) k
  where
    shared : (q b m k : ℕ) → (q * b + m) * k ≡ b * (q * k) + m * k
    shared q b m k = omega arith

gathered : (a b k : ℕ) → 0 < b → suc a * k + (b - 1 - a % b) * k ≡ b * ((a / b + 1) * k)
gathered a b k h = joined (suc a) (b - 1 - a % b) k ∙ ap (λ x. x * k) sum ∙ grouped b (a / b + 1) k
  where
    joined : (x y k : ℕ) → x * k + y * k ≡ (x + y) * k
    joined x y k = omega arith

    grouped : (b q k : ℕ) → b * q * k ≡ b * (q * k)
    grouped b q k = omega arith

    sum : suc a + (b - 1 - a % b) ≡ b * (a / b + 1)
    sum = by (a / b) (a % b) (b - 1 - a % b) (div-add-mod' a b) (turned_rest a b h)
      where
        by : (q t u : ℕ) → q * b + t ≡ a → u + suc t ≡ b → suc a + u ≡ b * (q + 1)
        by q t u e f = omega (arith, e, f)

-- the number times k is a multiple of the denominator exactly where what is above the floor times k is
pub to_above : (z w : ℤ) (k : ℕ) → (pos 1) ≤ℤ w → unsigned_abs w ∣ (unsigned_abs z * k) → unsigned_abs w ∣ (unsigned_abs (int_rem_euclid z w) * k)
to_above (pos a) (pos b) k h p = (dvd-add_iff_right b (dvd-mul_right b (a / b * k))).1 (subst (λ x. b ∣ x) (parted a b k) p)
to_above (negsuc a) (pos b) k h p = (dvd-add_iff_right b p).1 (multiple b ((a / b + 1) * k) (suc a * k + (b - 1 - a % b) * k) (gathered a b k (positive b h)))
to_above z (negsuc b) k h p = absurd (omega (arith, ints, h))

pub from_above : (z w : ℤ) (k : ℕ) → (pos 1) ≤ℤ w → unsigned_abs w ∣ (unsigned_abs (int_rem_euclid z w) * k) → unsigned_abs w ∣ (unsigned_abs z * k)
from_above (pos a) (pos b) k h p = subst (λ x. b ∣ x) (sym (parted a b k)) ((dvd-add_iff_right b (dvd-mul_right b (a / b * k))).0 p)
from_above (negsuc a) (pos b) k h p = (dvd-add_iff_left b p).1 (multiple b ((a / b + 1) * k) (suc a * k + (b - 1 - a % b) * k) (gathered a b k (positive b h)))
from_above z (negsuc b) k h p = absurd (omega (arith, ints, h))
