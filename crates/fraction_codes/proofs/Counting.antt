-- How many digits floors need, and sign vectors.
use Rattle.std.proofs.Common.{◌≡◌, ℕ, ◌+◌, ◌-◌, ◌*◌, ◌^◌, ◌≤◌, ◌<◌, max, List, [], length, map, take, get_or, arith, refl, ◌∙◌, sym, ap, subst}
use Rattle.std.specs.Prelude.{All}
use mathlib.Core.Logic.{◌⊎◌, inl, inr}
use Rattle.std.proofs.Math.IntN.{ℤ, pos, negsuc}
use Rattle.std.proofs.Math.Nat.{pow-le-pow_left, pow-le-pow_right}
use Rattle.std.proofs.lemmas.Bool.{cases_lt}
use Rattle.std.proofs.lemmas.List.{map_more, take_more, length-map, length-take-le}
use Rattle.std.proofs.lemmas.List.Elements.{All-push, All-weaker, All-map}
use Rattle.lash_model.specs.Letters.{number}
use Rattle.lash_model.proofs.Digits.{number_below}
use Rattle.fraction_codes.specs.declared.ratio.Ratio.{Ratio}
use Rattle.fraction_codes.specs.Fractions.{sign_of, floor}
use Rattle.fraction_codes.specs.Steps.{IsDigitCount, IsFloorCount, sign_distance}
use Rattle.fraction_codes.proofs.Denominators.{parted}
use Rattle.fraction_codes.proofs.Digits.{number-push, shorter_few}

-- a power of the base within 2 ^ 104 has a small exponent
pub few_digits : (r k : ℕ) → 2 ≤ r → r ^ k ≤ 2 ^ 104 → k ≤ 104
few_digits r k h l = by (cases_lt 104 k)
  where
    by : (104 < k) ⊎ (k ≤ 104) → k ≤ 104
    by (inl more) = let wide : 2 ^ 105 ≤ r ^ k = omega (arith, pow-le-pow_right {n = 2} (omega arith) {i = 105} {j = k} (omega (arith, more)), pow-le-pow_left h k) in absurd (omega (arith, wide, l))
    by (inr fine) = fine

-- a power that is not above the number leaves less to come when it grows
pub lessened : (n p r : ℕ) → 2 ≤ r → 0 < p → p ≤ n → n + 1 - p * r < n + 1 - p
lessened n p r h k l = omega (arith, l, k, doubled p r h k)
  where
    doubled : (p r : ℕ) → 2 ≤ r → 0 < p → p < p * r
    doubled p r h k = grind arith

-- one floor more
pub floor_count_more : (r i a b : ℕ) (vs : List Ratio) (w : Ratio) → 2 ≤ r → i < length vs → IsFloorCount r (take i vs) a → IsDigitCount r (sign_distance (floor (get_or vs i w))) b → IsFloorCount r (take (i + 1) vs) (max a b)
floor_count_more r i a b vs w h l few one = subst (λ xs. IsFloorCount r xs (max a b)) (sym (take_more vs i w l)) (record {
  enough = All-push (λ v. sign_distance (floor v) < r ^ max a b) (take i vs) (get_or vs i w) (All-weaker (λ v. sign_distance (floor v) < r ^ a) (λ v. sign_distance (floor v) < r ^ max a b) (λ v k. wider (sign_distance (floor v)) a (max a b) k (omega arith)) (take i vs) few.enough) (wider (sign_distance (floor (get_or vs i w))) b (max a b) one.enough (omega arith));
  least = λ j all. let both = parted (λ v. sign_distance (floor v) < r ^ j) (take i vs) (get_or vs i w) all in omega (arith, few.least j both.front, one.least j both.last);
})
  where
    wider : (x k m : ℕ) → x < r ^ k → k ≤ m → x < r ^ m
    wider x k m h' l' = omega (arith, h', pow-le-pow_right {n = r} (omega (arith, h)) l')

pub max_small : (r a b m : ℕ) → r ^ a ≤ m → r ^ b ≤ m → r ^ max a b ≤ m
max_small r a b m h k = by (cases_lt a b)
  where
    by : (a < b) ⊎ (b ≤ a) → r ^ max a b ≤ m
    by (inl lt) = let e : b ≡ max a b = omega (arith, lt) in subst (λ n. r ^ n ≤ m) e k
    by (inr ge) = let e : a ≡ max a b = omega (arith, ge) in subst (λ n. r ^ n ≤ m) e h

-- ---- sign vectors
pub sign_bits_below : (vs : List Ratio) → All (λ b. b < 2) (map (λ v. sign_of v.num) vs)
sign_bits_below vs = All-map (λ b. b < 2) (λ v. sign_of v.num) vs (λ k d h. sign_below (get_or vs k d).num)
  where
    sign_below : (z : ℤ) → sign_of z < 2
    sign_below (pos n) = omega arith
    sign_below (negsuc n) = omega arith

pub signs_below : (vs : List Ratio) → number 2 (map (λ v. sign_of v.num) vs) < 2 ^ length vs
signs_below vs = subst (λ n. number 2 (map (λ v. sign_of v.num) vs) < 2 ^ n) (length-map vs (λ v. sign_of v.num)) (number_below 2 (map (λ v. sign_of v.num) vs) (sign_bits_below vs))

pub signs_none : 0 ≡ number 2 (map (λ (v : Ratio). sign_of v.num) [])
unfolding number
signs_none = refl

pub signs_small : (vs : List Ratio) (i : ℕ) → i ≤ length vs → 2 ^ length vs ≤ 4096 → number 2 (map (λ v. sign_of v.num) (take i vs)) < 4096
signs_small vs i h few = omega (arith, signs_below (take i vs), ap (λ k. 2 ^ k) (length-take-le i vs h), shorter_few 2 (length vs) i 4096 (omega arith) h few)

pub signs_more : (vs : List Ratio) (i : ℕ) (w : Ratio) → i < length vs → number 2 (map (λ v. sign_of v.num) (take (i + 1) vs)) ≡ number 2 (map (λ v. sign_of v.num) (take i vs)) * 2 + sign_of (get_or vs i w).num
signs_more vs i w h = ap (number 2) (map_more (λ v. sign_of v.num) vs i w h) ∙ number-push 2 (map (λ v. sign_of v.num) (take i vs)) (sign_of (get_or vs i w).num)

pub signs_next : (vs : List Ratio) (i sign s : ℕ) (w : Ratio) → i < length vs → sign ≡ number 2 (map (λ v. sign_of v.num) (take i vs)) → s ≡ sign_of (get_or vs i w).num → sign * 2 + s ≡ number 2 (map (λ v. sign_of v.num) (take (i + 1) vs))
signs_next vs i sign s w h e f = ap (λ x. x * 2 + s) e ∙ ap (λ x. number 2 (map (λ v. sign_of v.num) (take i vs)) * 2 + x) f ∙ sym (signs_more vs i w h)
