-- With the least common denominator as the divisor, remainders are met again exactly where the powers of the base are.
use Rattle.std.proofs.Common.{◌≡◌, ◌≢◌, ℕ, zero, suc, ◌+◌, ◌-◌, ◌*◌, ◌/◌, ◌%◌, ◌^◌, ◌≤◌, ◌<◌, List, length, map, get_or, arith, refl, ◌∙◌, sym, ap, subst}
use Rattle.std.specs.Prelude.{All, unsigned_abs}
use mathlib.Core.Logic.{◌⊎◌, inl, inr}
use Prim.Native.Nat.{◌∣◌}
use Rattle.std.proofs.Math.Nat.{mul-sub, mul-add-mod_self_left, add-mul-mod_self_left, mod-eq_of_lt, eq_of_mul-eq-mul_right, pow-le-pow_right}
use Rattle.std.proofs.lemmas.Bool.{cases_lt}
use Rattle.std.proofs.lemmas.Nat.{div-add-mod', mul-mod_first, pow-add}
use Rattle.std.proofs.lemmas.List.{ext_get_or, get_or-map, length-map}
use Rattle.fraction_codes.specs.declared.ratio.Ratio.{Ratio}
use Rattle.fraction_codes.specs.declared.returning.Turn.{Turn}
use Rattle.fraction_codes.specs.Fractions.{IsFraction, IsWholeTimes, IsCommonDenominator, above_floor}
use Rattle.fraction_codes.specs.FixedCodes.{first_rest}
use Rattle.fraction_codes.specs.LongDivision.{rests_after, letters_of, IsFirstMetAgain}
use Rattle.fraction_codes.specs.Steps.{IsPowerTurn}
use Rattle.lash_model.specs.Words.{spelled}
use Rattle.fraction_codes.proofs.Divisors.{multiple, quotient_times}
use Rattle.fraction_codes.proofs.Flooring.{to_above, from_above}
use Rattle.fraction_codes.proofs.LongRuns.{long_is, length-rests_after, rests_below}

-- two numbers with one remainder differ by a multiple
pub difference_divides : (d x y : ℕ) → x % d ≡ y % d → d ∣ (y - x)
difference_divides d x y e = multiple d (y / d - x / d) (y - x) (by (x / d) (y / d) (x % d) (y % d) (div-add-mod' x d) (div-add-mod' y d) e ∙ sym (mul-sub d (y / d) (x / d)))
  where
    by : (q s t u : ℕ) → q * d + t ≡ x → s * d + u ≡ y → t ≡ u → y - x ≡ d * s - d * q
    by q s t u ex ey et = omega (arith, ex, ey, et)

pub remainders_same : (d x y : ℕ) → x ≤ y → d ∣ (y - x) → x % d ≡ y % d
remainders_same d x y h p = sym (add-mul-mod_self_left x d ((y - x) / d)) ∙ ap (λ n. n % d) (whole (quotient_times d (y - x) p))
  where
    whole : y - x ≡ d * ((y - x) / d) → x + d * ((y - x) / d) ≡ y
    whole e = omega (arith, h, e)

-- the remainder after so many steps
pub rest_is : (r d i k : ℕ) (rests : List ℕ) → 0 < r → i < length rests → All (λ p. p < d) rests → get_or (rests_after r d k rests) i 0 ≡ r ^ k * get_or rests i 0 % d
rest_is r d i k rests h l all = sym (ap (λ x. x % d) (long_is r d (length rests) i k rests h refl l all) ∙ mul-add-mod_self_left d (spelled r (length rests) i (letters_of r d k rests)) (get_or (rests_after r d k rests) i 0) ∙ mod-eq_of_lt (rests_below r d k rests all i 0 (subst (λ m. i < m) (sym (length-rests_after r d k rests)) l)))

-- equal powers leave equal remainders
pub rests_same : (r d a b : ℕ) (rests : List ℕ) → 0 < r → All (λ p. p < d) rests → r ^ a % d ≡ r ^ b % d → rests_after r d a rests ≡ rests_after r d b rests
rests_same r d a b rests h all e = ext_get_or 0 (rests_after r d a rests) (rests_after r d b rests) (length-rests_after r d a rests ∙ sym (length-rests_after r d b rests)) (λ i l. entry i (subst (λ m. i < m) (length-rests_after r d a rests) l))
  where
    entry : (i : ℕ) → i < length rests → get_or (rests_after r d a rests) i 0 ≡ get_or (rests_after r d b rests) i 0
    entry i l = rest_is r d i a rests h l all ∙ sym (mul-mod_first (r ^ a) (get_or rests i 0) d) ∙ ap (λ m. (m * get_or rests i 0) % d) e ∙ mul-mod_first (r ^ b) (get_or rests i 0) d ∙ sym (rest_is r d i b rests h l all)

-- the first remainder, over the fraction's own denominator
pub first_rest_times : (v : Ratio) (d : ℕ) → IsFraction v → IsWholeTimes d v → above_floor v * d ≡ unsigned_abs v.den * first_rest d v
first_rest_times v d small whole = quotient_times (unsigned_abs v.den) (above_floor v * d) (to_above v.num v.den d small.positive whole)

-- what makes the first remainder a multiple of the divisor makes the fraction an integer
pub whole_by_rest : (v : Ratio) (d k : ℕ) → 0 < d → IsFraction v → IsWholeTimes d v → d ∣ (k * first_rest d v) → IsWholeTimes k v
whole_by_rest v d k h small whole p = from_above v.num v.den k small.positive (multiple (unsigned_abs v.den) (k * first_rest d v / d) (above_floor v * k) (eq_of_mul-eq-mul_right d h (above_floor v * k) (unsigned_abs v.den * (k * first_rest d v / d)) (by (above_floor v) (unsigned_abs v.den) (first_rest d v) (k * first_rest d v / d) (first_rest_times v d small whole) (quotient_times d (k * first_rest d v) p))))
  where
    by : (e y q t : ℕ) → e * d ≡ y * q → k * q ≡ d * t → e * k * d ≡ y * t * d
    by e y q t ed kq = turned e k d ∙ ap (λ x. k * x) ed ∙ swapped k y q ∙ ap (λ x. y * x) kq ∙ grouped y d t
      where
        turned : (e k d : ℕ) → e * k * d ≡ k * (e * d)
        turned e k d = omega arith

        swapped : (k y q : ℕ) → k * (y * q) ≡ y * (k * q)
        swapped k y q = omega arith

        grouped : (y d t : ℕ) → y * (d * t) ≡ y * t * d
        grouped y d t = omega arith

-- equal remainders have equal powers
pub powers_same : (r d a b : ℕ) (vs : List Ratio) → 0 < r → a ≤ b → All IsFraction vs → IsCommonDenominator vs d → All (λ p. p < d) (map (first_rest d) vs) → rests_after r d a (map (first_rest d) vs) ≡ rests_after r d b (map (first_rest d) vs) → r ^ a % d ≡ r ^ b % d
powers_same r d a b vs h l small common below e = remainders_same d (r ^ a) (r ^ b) (pow-le-pow_right {n = r} h l) (common.least (r ^ b - r ^ a) (λ i w inside. whole_by_rest (get_or vs i w) d (r ^ b - r ^ a) common.positive (small i w inside) (common.clears i w inside) (divides i w inside)))
  where
    divides : (i : ℕ) (w : Ratio) → i < length vs → d ∣ ((r ^ b - r ^ a) * first_rest d (get_or vs i w))
    divides i w inside = subst (λ x. d ∣ x) difference (difference_divides d (r ^ a * get_or (map (first_rest d) vs) i 0) (r ^ b * get_or (map (first_rest d) vs) i 0) (sym (rest_is r d i a (map (first_rest d) vs) h in_rests below) ∙ ap (λ xs. get_or xs i 0) e ∙ rest_is r d i b (map (first_rest d) vs) h in_rests below))
      where
        in_rests : i < length (map (first_rest d) vs)
        in_rests = subst (λ m. i < m) (sym (length-map vs (first_rest d))) inside

        shared : (x y p : ℕ) → y * p - x * p ≡ (y - x) * p
        shared x y p = swapped y x p ∙ sym (mul-sub p y x) ∙ turned p (y - x)
          where
            swapped : (y x p : ℕ) → y * p - x * p ≡ p * y - p * x
            swapped y x p = omega arith

            turned : (p m : ℕ) → p * m ≡ m * p
            turned p m = omega arith

        difference : r ^ b * get_or (map (first_rest d) vs) i 0 - r ^ a * get_or (map (first_rest d) vs) i 0 ≡ (r ^ b - r ^ a) * first_rest d (get_or vs i w)
        difference = shared (r ^ a) (r ^ b) (get_or (map (first_rest d) vs) i 0) ∙ ap (λ p. (r ^ b - r ^ a) * p) (get_or-map (first_rest d) vs i w 0 inside)

-- ---- the first power that is met again
-- a turn of the cycle leads back
turn_back : (r d m : ℕ) (t : Turn) → IsPowerTurn r d t → r ^ (t.stem + t.cycle + m) % d ≡ r ^ (t.stem + m) % d
turn_back r d m t is = ap (λ x. x % d) (pow-add r (t.stem + t.cycle) m) ∙ sym (mul-mod_first (r ^ (t.stem + t.cycle)) (r ^ m) d) ∙ ap (λ x. (x * r ^ m) % d) is.again ∙ mul-mod_first (r ^ t.stem) (r ^ m) d ∙ ap (λ x. x % d) (sym (pow-add r t.stem m))

-- a power before the stem's end is not met again
not_met : (n r d i j : ℕ) (t : Turn) → IsPowerTurn r d t → i < t.stem → i < j → j ≤ n → r ^ i % d ≢ r ^ j % d
not_met zero r d i j t is h l upto = absurd (omega (arith, l, upto))
not_met (suc n) r d i j t is h l upto = by (λ k before. not_met n r d i k t is h before) (cases_lt j (t.stem + t.cycle))
  where
    by : ((k : ℕ) → i < k → k ≤ n → r ^ i % d ≢ r ^ k % d) → (j < t.stem + t.cycle) ⊎ (t.stem + t.cycle ≤ j) → r ^ i % d ≢ r ^ j % d
    by rec (inl lt) = is.distinct i j l lt
    by rec (inr ge) = λ e. rec (t.stem + (j - (t.stem + t.cycle))) (omega (arith, h)) (omega (arith, upto, ge, is.turns)) (e ∙ ap (λ k. r ^ k % d) whole ∙ turn_back r d (j - (t.stem + t.cycle)) t is)
      where
        whole : j ≡ t.stem + t.cycle + (j - (t.stem + t.cycle))
        whole = omega (arith, ge)

-- so the remainders are met again first where the powers are
pub met_is : (r d : ℕ) (vs : List Ratio) (t : Turn) → 0 < r → All IsFraction vs → IsCommonDenominator vs d → All (λ p. p < d) (map (first_rest d) vs) → IsPowerTurn r d t → IsFirstMetAgain (λ k. rests_after r d k (map (first_rest d) vs)) t.stem t.cycle
met_is r d vs t h small common below is = record {
  turns = is.turns;
  again = rests_same r d (t.stem + t.cycle) t.stem (map (first_rest d) vs) h below is.again;
  not_between = λ c some less e. is.distinct t.stem (t.stem + c) (omega (arith, some)) (omega (arith, less)) (powers_same r d t.stem (t.stem + c) vs h (omega arith) small common below (sym e));
  not_before = λ i j early later e. not_met j r d i j t is early later (omega arith) (powers_same r d i j vs h (omega (arith, later)) small common below e);
}
