-- Digits of letters: each is below the base, and there are no more sign vectors than letters.
use Rattle.std.proofs.Common.{◌≡◌, ℕ, ◌+◌, ◌-◌, ◌*◌, ◌/◌, ◌%◌, ◌^◌, ◌≤◌, ◌<◌, List, [], ◌∷◌, ◌++◌, length, take, drop, get_or, arith, add-one, ◌∙◌, sym, ap, subst}
use Rattle.std.proofs.Math.Nat.{pow-suc, pow-zero, pow-le-pow_left, pow-le-pow_right}
use Rattle.std.proofs.lemmas.Nat.{mod_below}
use Rattle.std.proofs.lemmas.List.{map_more, map-append, length_push, take-append-drop}
use Rattle.fraction_codes.specs.DigitText.{digit_code, letter_text, word_text}
use Rattle.lash_model.specs.Letters.{number, digit, sign_bit}
use Rattle.lash_model.proofs.Digits.{digit-quotient}

pub digit_below : (r n i l : ℕ) → 0 < r → i < n → l < r ^ n → digit r n i l < r
digit_below r n i l h k lt = subst (λ d. d < r) (sym (digit-quotient r n i l h k lt)) (mod_below (l / r ^ (n - (i + 1))) r h)

pub few_signs : (r n : ℕ) → 2 ≤ r → r ^ n ≤ 4096 → 2 ^ n ≤ 4096
few_signs r n h k = omega (arith, k, pow-le-pow_left h n)

pub shorter_few : (r n k m : ℕ) → 0 < r → k ≤ n → r ^ n ≤ m → r ^ k ≤ m
shorter_few r n k m h l few = omega (arith, few, pow-le-pow_right {n = r} h l)

pub sign_quotient : (n i sign : ℕ) → i < n → sign < 2 ^ n → sign / 2 ^ (n - (i + 1)) % 2 ≡ sign_bit n i sign
unfolding sign_bit
sign_quotient n i sign h k = sym (digit-quotient 2 n i sign (omega arith) h k)

-- a digit at the end makes r times the number, plus the digit
pub number-push : (r : ℕ) (ds : List ℕ) (d : ℕ) → number r (ds ++ d ∷ []) ≡ number r ds * r + d
unfolding number
number-push r [] d = rw (pow-zero r) (omega arith)
number-push r (x ∷ ds) d = ap (λ k. x * r ^ k + number r (ds ++ d ∷ [])) (length_push ds d) ∙ ap (λ s. x * r ^ (length ds + 1) + s) (number-push r ds d) ∙ ap (λ p. x * p + (number r ds * r + d)) (next r (length ds)) ∙ regroup x r (r ^ length ds) (number r ds) d
  where
    next : (r n : ℕ) → r ^ (n + 1) ≡ r * r ^ n
    next r n = rw add-one (omega (arith, pow-suc r n))

    regroup : (x r p s d : ℕ) → x * (r * p) + (s * r + d) ≡ (x * p + s) * r + d
    regroup x r p s d = omega arith

-- the digits of one letter more
pub word_text_more : (r n i : ℕ) (w : List ℕ) (k : ℕ) → k < length w → word_text r n i (take (k + 1) w) ≡ word_text r n i (take k w) ++ letter_text r n i (get_or w k 0)
word_text_more r n i w k h = map_more (λ l. digit_code (digit r n i l)) w k 0 h

pub word_text_whole : (r n i : ℕ) (w : List ℕ) (k : ℕ) → k < length w → word_text r n i w ≡ (word_text r n i (take k w) ++ letter_text r n i (get_or w k 0)) ++ word_text r n i (drop (k + 1) w)
word_text_whole r n i w k h =
    ap (word_text r n i) (sym (take-append-drop (k + 1) w))
    ∙ map-append (λ l. digit_code (digit r n i l)) (take (k + 1) w) (drop (k + 1) w)
    ∙ ap (λ xs. xs ++ word_text r n i (drop (k + 1) w)) (word_text_more r n i w k h)
