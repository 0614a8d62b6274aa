-- Numbers and the words that spell them: sign letters in front are idle, values are bounded by the length, and each number within
-- the bounds has a word.
use Rattle.std.proofs.Common.{◌≡◌, ℕ, zero, suc, ◌+◌, ◌-◌, ◌*◌, ◌/◌, ◌%◌, ◌^◌, ◌≤◌, ◌<◌, List, [], ◌∷◌, length, map, arith, refl, ◌∙◌, sym, ap, subst}
use Rattle.std.proofs.Math.IntN.{pos, negsuc, ◌-ℤ◌}
use Rattle.std.specs.Prelude.{◌≤ℤ◌, ◌<ℤ◌, slice_index}
use Rattle.std.specs.List.{AllByRecursion}
use Rattle.std.proofs.Math.Nat.{pow-suc, pow-zero, mod-eq_of_lt, div-one}
use Rattle.std.proofs.lemmas.Int.{ints}
use Rattle.std.proofs.lemmas.List.{length-map}
use Rattle.std.proofs.lemmas.List.Elements.{recursion_from_All, All-map, All-weaker}
use Rattle.std.proofs.lemmas.Nat.{mod_below}
use Rattle.lash_model.specs.Letters.{digits, number, AreDigits, digit, sign_bit, sign_letter}
use Rattle.lash_model.specs.Words.{spelled, value, IsBounded, SpellsNumber}
use Rattle.lash_model.proofs.Digits.{power_positive, digit-quotient, digits_are, number-digits, digits-number}

next_power : (r n : ℕ) → r ^ suc n ≡ r * r ^ n
next_power r n = omega (arith, pow-suc r n)

index-map : (f : ℕ → ℕ) (xs : List ℕ) (i : ℕ) → i < length xs → slice_index (map f xs) i ≡ f (slice_index xs i)
index-map f [] i h = absurd (omega arith)
index-map f (x ∷ xs) zero h = refl
index-map f (x ∷ xs) (suc i) h = index-map f xs i (omega (arith, h))

sign_digit_below : (r b : ℕ) → 2 ≤ r → b < 2 → b * (r - 1) < r
sign_digit_below r zero h k = omega (arith, h)
sign_digit_below r (suc zero) h k = omega (arith, h)
sign_digit_below r (suc (suc b)) h k = absurd (omega (arith, k))

sign_digits_are : (r n sign : ℕ) → 2 ≤ r → sign < 2 ^ n → AreDigits r n (map (λ bit. bit * (r - 1)) (digits 2 n sign))
sign_digits_are r n sign h k = let bits = digits_are 2 n sign (omega arith) k in record {
  count = length-map (digits 2 n sign) (λ bit. bit * (r - 1)) ∙ bits.count;
  below = All-map (λ d. d < r) (λ bit. bit * (r - 1)) (digits 2 n sign) (All-weaker (λ b. b < 2) (λ b. b * (r - 1) < r) (λ b lt. sign_digit_below r b h lt) (digits 2 n sign) bits.below);
}

-- the sign letter's digit on a track is r - 1 times the sign bit
pub digit-sign_letter : (r n i sign : ℕ) → 2 ≤ r → i < n → sign < 2 ^ n → digit r n i (sign_letter r n sign) ≡ sign_bit n i sign * (r - 1)
unfolding digit sign_bit sign_letter
digit-sign_letter r n i sign h k s = ap (λ ds. slice_index ds i) (digits-number r n (map (λ bit. bit * (r - 1)) (digits 2 n sign)) (sign_digits_are r n sign h s)) ∙ index-map (λ bit. bit * (r - 1)) (digits 2 n sign) i (subst (λ m. i < m) (sym (digits_are 2 n sign (omega arith) s).count) k)

-- a sign letter in front changes no value
pub value-padded : (r n i sign : ℕ) (w : List ℕ) → 2 ≤ r → i < n → sign < 2 ^ n → value r n i sign (sign_letter r n sign ∷ w) ≡ value r n i sign w
unfolding value spelled
value-padded r n i sign w h k s = ap (λ d. pos (d * r ^ length w + spelled r n i w) -ℤ pos (sign_bit n i sign * r ^ suc (length w))) (digit-sign_letter r n i sign h k s) ∙ ap (λ p. pos (sign_bit n i sign * (r - 1) * r ^ length w + spelled r n i w) -ℤ pos (sign_bit n i sign * p)) (next_power r (length w)) ∙ regroup (sign_bit n i sign) r (r ^ length w) (spelled r n i w) h
  where
    parted : (b k p : ℕ) → b * (suc k * p) ≡ b * k * p + b * p
    parted b k p = omega arith

    one_more : (b r p : ℕ) → 2 ≤ r → b * (r * p) ≡ b * (r - 1) * p + b * p
    one_more b r p h = ap (λ k. b * (k * p)) (pred_suc r h) ∙ parted b (r - 1) p
      where
        pred_suc : (r : ℕ) → 2 ≤ r → r ≡ suc (r - 1)
        pred_suc r h = omega (arith, h)

    regroup : (b r p t : ℕ) → 2 ≤ r → pos (b * (r - 1) * p + t) -ℤ pos (b * (r * p)) ≡ pos t -ℤ pos (b * p)
    regroup b r p t h = omega (arith, ints, one_more b r p h)

-- the number that a track spells is below r to the length
pub spelled_below : (r n i : ℕ) (w : List ℕ) → 0 < r → i < n → AllByRecursion (λ l. l < r ^ n) w → spelled r n i w < r ^ length w
unfolding spelled
spelled_below r n i [] h k letters = power_positive r 0 h
spelled_below r n i (l ∷ w) h k letters = subst (λ p. digit r n i l * r ^ length w + spelled r n i w < p) (sym (next_power r (length w))) (below (digit r n i l) r (r ^ length w) (spelled r n i w) digit_below (spelled_below r n i w h k letters.1))
  where
    digit_below : digit r n i l < r
    digit_below = subst (λ d. d < r) (sym (digit-quotient r n i l h k letters.0)) (mod_below (l / r ^ (n - (i + 1))) r h)

    below : (d r p t : ℕ) → d < r → t < p → d * p + t < r * p
    below d r p t h k = grind arith

pub value_bounded : (r n i sign : ℕ) (w : List ℕ) → 0 < r → i < n → AllByRecursion (λ l. l < r ^ n) w → IsBounded r (length w) (sign_bit n i sign) (value r n i sign w)
unfolding value
value_bounded r n i sign w h k letters = record {
  positive = λ e. at_zero (spelled r n i w) (sign_bit n i sign) (r ^ length w) e (spelled_below r n i w h k letters);
  negative = λ e. at_one (spelled r n i w) (sign_bit n i sign) (r ^ length w) e (spelled_below r n i w h k letters);
}
  where
    at_zero : (s b p : ℕ) → b ≡ 0 → s < p → ((pos 0) ≤ℤ (pos s -ℤ pos (b * p))) × ((pos s -ℤ pos (b * p)) <ℤ (pos p))
    at_zero s b p e h = (omega (arith, ints, h, ap (λ x. x * p) e), omega (arith, ints, h, ap (λ x. x * p) e))

    at_one : (s b p : ℕ) → b ≡ 1 → s < p → ((pos 0 -ℤ pos p) ≤ℤ (pos s -ℤ pos (b * p))) × ((pos s -ℤ pos (b * p)) <ℤ (pos 0))
    at_one s b p e h = (omega (arith, ints, h, ap (λ x. x * p) e), omega (arith, ints, h, ap (λ x. x * p) e))

-- on one track a letter is its digit, and a word spells the number of its letters
digit_alone : (r l : ℕ) → 0 < r → l < r → digit r 1 0 l ≡ l
digit_alone r l h k = digit-quotient r 1 0 l h (omega arith) (subst (λ p. l < p) (sym (power_one r)) k) ∙ ap (λ p. l / p % r) (pow-zero r) ∙ ap (λ q. q % r) (div-one l) ∙ mod-eq_of_lt k
  where
    power_one : (r : ℕ) → r ^ 1 ≡ r
    power_one r = pow-suc r 0 ∙ ap (λ p. p * r) (pow-zero r) ∙ one_times r
      where
        one_times : (r : ℕ) → 1 * r ≡ r
        one_times r = omega arith

spelled_alone : (r : ℕ) (w : List ℕ) → 0 < r → AllByRecursion (λ l. l < r) w → spelled r 1 0 w ≡ number r w
unfolding spelled number
spelled_alone r [] h letters = refl
spelled_alone r (l ∷ w) h letters = ap (λ d. d * r ^ length w + spelled r 1 0 w) (digit_alone r l h letters.0) ∙ ap (λ s. l * r ^ length w + s) (spelled_alone r w h letters.1)

bit_alone : (s : ℕ) → s < 2 → sign_bit 1 0 s ≡ s
unfolding sign_bit
bit_alone s h = digit_alone 2 s (omega arith) h

-- the word of the digits of x, under the sign s
digits_spell : (r k s x : ℕ) → 0 < r → s < 2 → x < r ^ k → value r 1 0 s (digits r k x) ≡ pos x -ℤ pos (s * r ^ k)
unfolding value
digits_spell r k s x h b lt = let ds = digits_are r k x h lt in
    ap (λ n. pos n -ℤ pos (sign_bit 1 0 s * r ^ length (digits r k x))) (spelled_alone r (digits r k x) h (recursion_from_All (λ l. l < r) (digits r k x) ds.below) ∙ number-digits r k x h lt)
    ∙ ap (λ e. pos x -ℤ pos (e * r ^ length (digits r k x))) (bit_alone s b)
    ∙ ap (λ e. pos x -ℤ pos (s * r ^ e)) ds.count

-- each number from minus r to the length up to r to the length has a word of that length
pub word_for_natural : (r k n : ℕ) → 0 < r → n < r ^ k → SpellsNumber r k (pos n)
word_for_natural r k n h lt = let ds = digits_are r k n h lt in record {
  sign = 0;
  word = digits r k n;
  sign_below = omega arith;
  letters = ds.below;
  count = ds.count;
  is = digits_spell r k 0 n h (omega arith) lt ∙ no_sign n (r ^ k);
}
  where
    no_sign : (n p : ℕ) → pos n -ℤ pos (0 * p) ≡ pos n
    no_sign n p = omega (arith, ints)

pub word_for_negative : (r k n : ℕ) → 0 < r → n < r ^ k → SpellsNumber r k (negsuc n)
word_for_negative r k n h lt = let ds = digits_are r k (r ^ k - (n + 1)) h (less n (r ^ k) lt) in record {
  sign = 1;
  word = digits r k (r ^ k - (n + 1));
  sign_below = omega arith;
  letters = ds.below;
  count = ds.count;
  is = digits_spell r k 1 (r ^ k - (n + 1)) h (omega arith) (less n (r ^ k) lt) ∙ signed n (r ^ k) lt;
}
  where
    less : (n p : ℕ) → n < p → p - (n + 1) < p
    less n p h = omega (arith, h)

    signed : (n p : ℕ) → n < p → pos (p - (n + 1)) -ℤ pos (1 * p) ≡ negsuc n
    signed n p h = omega (arith, ints, h)
