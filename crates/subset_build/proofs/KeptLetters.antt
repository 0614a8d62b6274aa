-- Letters of all tracks over a letter of the kept ones: their digits, and how they are reckoned.
use Rattle.std.proofs.Common.{◌≡◌, ℕ, zero, suc, ◌+◌, ◌-◌, ◌*◌, ◌/◌, ◌%◌, ◌^◌, ◌<◌, ◌≤◌, List, [], ◌∷◌, ◌++◌, length, map, take, drop, arith, ◌∙◌, sym, ap, ap₂, subst}
use Rattle.std.specs.Prelude.{slice_index, All}
use Rattle.std.proofs.Math.Nat.{pow-suc, pow-zero, pow-le-pow_left, pow-le-pow_right}
use Rattle.std.proofs.Math.Seq.{take-length}
use Rattle.std.proofs.lemmas.Nat.{pow-add, div-mul-add, mod-mul-add}
use Rattle.std.proofs.lemmas.List.{take-append-drop, length-take-le, length-drop, length-append, length-map, map-append, take_more}
use Rattle.std.proofs.lemmas.List.Edits.{length-insert, get_or-insert_below, get_or-insert_at, get_or-insert_above}
use Rattle.std.proofs.lemmas.List.Elements.{All-map, All-weaker, All-cons, All-append, All-take, All-drop}
use Rattle.lash_model.specs.Letters.{digits, number, digit, AreDigits, sign_letter}
use Rattle.lash_model.specs.Sets.{inserted_at}
use Rattle.lash_model.proofs.Digits.{digits_are, length-digits, digits-number, number-digits, number_below}
use Rattle.subset_build.specs.Projection.{with_digit}
use Rattle.subset_build.specs.Closing.{AreOver}

-- there are no more sign vectors than letters
pub few_signs : (base n : ℕ) → 2 ≤ base → base ^ n ≤ 4096 → 2 ^ n ≤ 4096
few_signs base n h k = omega (arith, k, pow-le-pow_left h n)

-- ---- digits
pub inserted_digits : (r n i letter d : ℕ) → 0 < r → letter < r ^ n → i ≤ n → d < r → AreDigits r (n + 1) (inserted_at i d (digits r n letter))
inserted_digits r n i letter d b lt inside below = record {
  count = length-insert (digits r n letter) i d (subst (λ k. i ≤ k) (sym (length-digits r n letter)) inside) ∙ ap (λ k. k + 1) (length-digits r n letter);
  below = All-append (λ x. x < r) (take i (digits r n letter)) (d ∷ drop i (digits r n letter)) (All-take (λ x. x < r) i (digits r n letter) all) (All-cons (λ x. x < r) d (drop i (digits r n letter)) below (All-drop (λ x. x < r) i (digits r n letter) all));
}
  where
    all : All (λ x. x < r) (digits r n letter)
    all = (digits_are r n letter b lt).below

-- the digits of a letter that is put together
pub digits_with : (r n i letter d : ℕ) → 0 < r → letter < r ^ n → i ≤ n → d < r → digits r (n + 1) (with_digit r n i letter d) ≡ inserted_at i d (digits r n letter)
unfolding with_digit
digits_with r n i letter d b lt inside below = digits-number r (n + 1) (inserted_at i d (digits r n letter)) (inserted_digits r n i letter d b lt inside below)

pub with_digit_below : (r n i letter d : ℕ) → 0 < r → letter < r ^ n → i ≤ n → d < r → with_digit r n i letter d < r ^ (n + 1)
unfolding with_digit
with_digit_below r n i letter d b lt inside below =
    let ds = inserted_digits r n i letter d b lt inside below in
    subst (λ k. number r (inserted_at i d (digits r n letter)) < r ^ k) ds.count (number_below r (inserted_at i d (digits r n letter)) ds.below)

-- on a track before the place, at the place, and behind it
pub digit_before : (r n i j letter d : ℕ) → 0 < r → letter < r ^ n → i ≤ n → d < r → j < i → digit r (n + 1) j (with_digit r n i letter d) ≡ digit r n j letter
unfolding digit
digit_before r n i j letter d b lt inside below before = ap (λ ds. slice_index ds j) (digits_with r n i letter d b lt inside below) ∙ get_or-insert_below (digits r n letter) i d 0 j before (subst (λ k. i ≤ k) (sym (length-digits r n letter)) inside)

pub digit_at : (r n i letter d : ℕ) → 0 < r → letter < r ^ n → i ≤ n → d < r → digit r (n + 1) i (with_digit r n i letter d) ≡ d
unfolding digit
digit_at r n i letter d b lt inside below = ap (λ ds. slice_index ds i) (digits_with r n i letter d b lt inside below) ∙ get_or-insert_at (digits r n letter) i d 0 (subst (λ k. i ≤ k) (sym (length-digits r n letter)) inside)

pub digit_behind : (r n i j letter d : ℕ) → 0 < r → letter < r ^ n → i ≤ n → d < r → i ≤ j → digit r (n + 1) (j + 1) (with_digit r n i letter d) ≡ digit r n j letter
unfolding digit
digit_behind r n i j letter d b lt inside below behind = ap (λ ds. slice_index ds (j + 1)) (digits_with r n i letter d b lt inside below) ∙ get_or-insert_above (digits r n letter) i d 0 j behind (subst (λ k. i ≤ k) (sym (length-digits r n letter)) inside)

-- ---- by quotient and remainder
number-append : (r : ℕ) (xs ys : List ℕ) → number r (xs ++ ys) ≡ number r xs * r ^ length ys + number r ys
unfolding number
number-append r [] ys = omega arith
number-append r (x ∷ xs) ys =
    ap (λ k. x * r ^ k + number r (xs ++ ys)) (length-append xs ys)
    ∙ ap (λ p. x * p + number r (xs ++ ys)) (pow-add r (length xs) (length ys))
    ∙ ap (λ s. x * (r ^ length xs * r ^ length ys) + s) (number-append r xs ys)
    ∙ regroup x (r ^ length xs) (r ^ length ys) (number r xs) (number r ys)
  where
    regroup : (x p q s t : ℕ) → x * (p * q) + (s * q + t) ≡ (x * p + s) * q + t
    regroup x p q s t = omega arith

-- of the digits before the place and those from it on, the numbers
high : ℕ → ℕ → ℕ → ℕ → ℕ
high r n i letter = number r (take i (digits r n letter))

low : ℕ → ℕ → ℕ → ℕ → ℕ
low r n i letter = number r (drop i (digits r n letter))

behind_count : (r n i letter : ℕ) → length (drop i (digits r n letter)) ≡ n - i
behind_count r n i letter = length-drop i (digits r n letter) ∙ ap (λ k. k - i) (length-digits r n letter)

parted : (r n i letter : ℕ) → 0 < r → letter < r ^ n → letter ≡ high r n i letter * r ^ (n - i) + low r n i letter
unfolding high low
parted r n i letter b lt =
    sym (number-digits r n letter b lt)
    ∙ ap (number r) (sym (take-append-drop i (digits r n letter)))
    ∙ number-append r (take i (digits r n letter)) (drop i (digits r n letter))
    ∙ ap (λ k. number r (take i (digits r n letter)) * r ^ k + number r (drop i (digits r n letter))) (behind_count r n i letter)

low_below : (r n i letter : ℕ) → 0 < r → letter < r ^ n → low r n i letter < r ^ (n - i)
unfolding low
low_below r n i letter b lt = subst (λ k. number r (drop i (digits r n letter)) < r ^ k) (behind_count r n i letter) (number_below r (drop i (digits r n letter)) (All-drop (λ x. x < r) i (digits r n letter) (digits_are r n letter b lt).below))

put_together : (r n i letter d : ℕ) → with_digit r n i letter d ≡ high r n i letter * (r ^ (n - i) * r) + (d * r ^ (n - i) + low r n i letter)
unfolding with_digit high low number
put_together r n i letter d =
    number-append r (take i (digits r n letter)) (d ∷ drop i (digits r n letter))
    ∙ ap (λ k. number r (take i (digits r n letter)) * r ^ suc k + (d * r ^ k + number r (drop i (digits r n letter)))) (behind_count r n i letter)
    ∙ ap (λ p. number r (take i (digits r n letter)) * p + (d * r ^ (n - i) + number r (drop i (digits r n letter)))) (pow-suc r (n - i))

quotient : (r n i letter : ℕ) → 0 < r → letter < r ^ n → letter / r ^ (n - i) ≡ high r n i letter
quotient r n i letter b lt = ap (λ x. x / r ^ (n - i)) (parted r n i letter b lt) ∙ div-mul-add (high r n i letter) (r ^ (n - i)) (low r n i letter) (low_below r n i letter b lt)

remainder : (r n i letter : ℕ) → 0 < r → letter < r ^ n → letter % r ^ (n - i) ≡ low r n i letter
remainder r n i letter b lt = ap (λ x. x % r ^ (n - i)) (parted r n i letter b lt) ∙ mod-mul-add (high r n i letter) (r ^ (n - i)) (low r n i letter) (low_below r n i letter b lt)

-- what the code reckons
pub reckoned : (r n i letter d : ℕ) → 0 < r → letter < r ^ n → (letter / r ^ (n - i) * (r ^ (n - i) * r) + letter % r ^ (n - i)) + d * r ^ (n - i) ≡ with_digit r n i letter d
reckoned r n i letter d b lt =
    ap₂ (λ x y. (x * (r ^ (n - i) * r) + y) + d * r ^ (n - i)) (quotient r n i letter b lt) (remainder r n i letter b lt)
    ∙ moved (high r n i letter * (r ^ (n - i) * r)) (low r n i letter) (d * r ^ (n - i))
    ∙ sym (put_together r n i letter d)
  where
    moved : (x y z : ℕ) → (x + y) + z ≡ x + (z + y)
    moved x y z = omega arith

pub are_over : (r n i letter first stride radix : ℕ) → 0 < r → letter < r ^ n → i ≤ n → radix ≡ r → stride ≡ r ^ (n - i) → first ≡ letter / stride * (stride * radix) + letter % stride → AreOver r n i letter first stride
are_over r n i letter first stride radix b lt inside base is begins = record {
  each = λ d below. over d;
  below = λ d below. subst (λ x. x < r ^ (n + 1)) (sym (over d)) (with_digit_below r n i letter d b lt inside below);
}
  where
    over : (d : ℕ) → first + d * stride ≡ with_digit r n i letter d
    over d = ap (λ x. x + d * stride) begins ∙ ap₂ (λ s (x : ℕ). (letter / s * (s * x) + letter % s) + d * s) is base ∙ reckoned r n i letter d b lt

-- ---- room
pub stride_room : (r n i : ℕ) → 0 < r → r ^ (n + 1) ≤ 4096 → r ^ (n - i) ≤ 4096
stride_room r n i b few = let le : n - i ≤ n + 1 = omega arith in omega (arith, few, pow-le-pow_right b le)

pub next_room : (r n i : ℕ) → 0 < r → r ^ (n + 1) ≤ 4096 → r ^ (n - i) * r ≤ 4096
next_room r n i b few = let le : suc (n - i) ≤ n + 1 = omega arith in omega (arith, few, pow-le-pow_right b le, pow-suc r (n - i))

pub first_room : (r n i letter : ℕ) → 0 < r → letter < r ^ n → i ≤ n → r ^ (n + 1) ≤ 4096 → letter / r ^ (n - i) * (r ^ (n - i) * r) + letter % r ^ (n - i) < 4096
first_room r n i letter b lt inside few = omega (arith, few, reckoned r n i letter 0 b lt, with_digit_below r n i letter 0 b lt inside b)

-- ---- the sign letter, digit by digit
number-push : (r : ℕ) (ds : List ℕ) (d : ℕ) → number r (ds ++ d ∷ []) ≡ number r ds * r + d
unfolding number
number-push r ds d = number-append r ds (d ∷ []) ∙ one r (number r ds) d
  where
    one : (r x d : ℕ) → x * r ^ 1 + (d * r ^ 0 + 0) ≡ x * r + d
    one r x d = rw (pow-suc r 0, pow-zero r) (omega arith)

-- the letter of the sign digits of the first tracks
pub signs_upto : ℕ → ℕ → ℕ → ℕ → ℕ
signs_upto r n i sign = number r (map (λ bit. bit * (r - 1)) (take i (digits 2 n sign)))

pub signs_none : (r n sign letter : ℕ) → letter ≡ 0 → letter ≡ signs_upto r n 0 sign
unfolding signs_upto number
signs_none r n sign letter e = e

pub signs_more : (r n i sign letter radix bit : ℕ) → i < n → letter ≡ signs_upto r n i sign → radix ≡ r → bit ≡ digit 2 n i sign → letter * radix + bit * (radix - 1) ≡ signs_upto r n (i + 1) sign
unfolding signs_upto digit
signs_more r n i sign letter radix bit lt so_far base is =
    ap₂ (λ x (k : ℕ). x * k + bit * (k - 1)) so_far base
    ∙ ap (λ b. number r (map (λ bit. bit * (r - 1)) (take i (digits 2 n sign))) * r + b * (r - 1)) is
    ∙ sym (number-push r (map (λ bit. bit * (r - 1)) (take i (digits 2 n sign))) (slice_index (digits 2 n sign) i * (r - 1)))
    ∙ ap (number r) (sym (map-append (λ bit. bit * (r - 1)) (take i (digits 2 n sign)) (slice_index (digits 2 n sign) i ∷ [])))
    ∙ ap (λ ds. number r (map (λ bit. bit * (r - 1)) ds)) (sym (take_more (digits 2 n sign) i 0 (subst (λ k. i < k) (sym (length-digits 2 n sign)) lt)))

pub signs_all : (r n sign : ℕ) → signs_upto r n n sign ≡ sign_letter r n sign
unfolding signs_upto sign_letter
signs_all r n sign = ap (λ ds. number r (map (λ bit. bit * (r - 1)) ds)) (ap (λ k. take k (digits 2 n sign)) (sym (length-digits 2 n sign)) ∙ take-length (digits 2 n sign))

sign_digits_below : (r b : ℕ) → 2 ≤ r → b < 2 → b * (r - 1) < r
sign_digits_below r zero h k = omega (arith, h)
sign_digits_below r (suc zero) h k = omega (arith, h)
sign_digits_below r (suc (suc b)) h k = absurd (omega (arith, k))

sign_digits : (r : ℕ) (bits : List ℕ) → 2 ≤ r → All (λ b. b < 2) bits → All (λ d. d < r) (map (λ bit. bit * (r - 1)) bits)
sign_digits r bits h a = All-map (λ d. d < r) (λ bit. bit * (r - 1)) bits (All-weaker (λ b. b < 2) (λ b. b * (r - 1) < r) (λ b lt. sign_digits_below r b h lt) bits a)

-- what was read so far is a letter of as many tracks
pub signs_below : (r n i sign : ℕ) → 2 ≤ r → sign < 2 ^ n → i ≤ n → signs_upto r n i sign < r ^ i
unfolding signs_upto
signs_below r n i sign h lt inside = subst (λ k. number r (map (λ bit. bit * (r - 1)) (take i (digits 2 n sign))) < r ^ k) count (number_below r (map (λ bit. bit * (r - 1)) (take i (digits 2 n sign))) (sign_digits r (take i (digits 2 n sign)) h (All-take (λ b. b < 2) i (digits 2 n sign) (digits_are 2 n sign (omega arith) lt).below)))
  where
    count : length (map (λ bit. bit * (r - 1)) (take i (digits 2 n sign))) ≡ i
    count = length-map (take i (digits 2 n sign)) (λ bit. bit * (r - 1)) ∙ length-take-le i (digits 2 n sign) (subst (λ k. i ≤ k) (sym (length-digits 2 n sign)) inside)

pub sign_letter_below : (r n sign : ℕ) → 2 ≤ r → sign < 2 ^ n → sign_letter r n sign < r ^ n
sign_letter_below r n sign h lt = subst (λ x. x < r ^ n) (signs_all r n sign) (signs_below r n n sign h lt (omega arith))

-- one digit more has room
pub signs_room : (r n i sign letter radix bit : ℕ) → 2 ≤ r → sign < 2 ^ n → i < n → r ^ n ≤ 4096 → letter ≡ signs_upto r n i sign → radix ≡ r → bit ≡ digit 2 n i sign → letter * radix + bit * (radix - 1) < 4096
signs_room r n i sign letter radix bit h lt inside few so_far base is =
    let some : 0 < r = omega (arith, h) in
    let le : i + 1 ≤ n = omega (arith, inside) in
    omega (arith, few, signs_more r n i sign letter radix bit inside so_far base is, signs_below r n (i + 1) sign h lt le, pow-le-pow_right some le)
