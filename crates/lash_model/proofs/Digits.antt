-- Digits and numbers: a letter and its digits determine each other, and quotient and remainder give one digit.
use Rattle.std.proofs.Common.{◌≡◌, ℕ, zero, suc, ◌+◌, ◌-◌, ◌*◌, ◌/◌, ◌%◌, ◌^◌, ◌<◌, List, [], ◌∷◌, length, arith, refl, ◌∙◌, sym, ap, ap₂}
use Rattle.std.proofs.Math.Nat.{pow-suc, pow-zero, one-le-pow, mul-le-mul_right, mul-add-div_right, mul-add-mod_self_right, mod-eq_of_lt}
use Rattle.std.proofs.lemmas.Nat.{pow-add, div-add-mod', div-mul-add, mod-mul-add, div_below, mod_below}
use Rattle.std.proofs.lemmas.List.Elements.{All-nil, All-cons, All-head, All-tail}
use Rattle.std.specs.Prelude.{All}
use Rattle.lash_model.specs.Letters.{digits, number, digit, AreDigits}

regroup : (q m r k y : ℕ) → (q * m * r) * k + y ≡ q * (m * r * k) + y
regroup q m r k y = omega arith

joined : (x k r m : ℕ) → (x / (m * r * k) * m * r) * k + x % (m * r * k) ≡ x
joined x k r m = regroup (x / (m * r * k)) m r k (x % (m * r * k)) ∙ div-add-mod' x (m * r * k)

-- a remainder by a multiple of r * k has the digit of the number itself at k
mod-div-mod : (x k r m : ℕ) → 0 < k → (x % (m * r * k)) / k % r ≡ x / k % r
mod-div-mod x k r m h =
    sym (mul-add-mod_self_right (x / (m * r * k) * m) r (x % (m * r * k) / k))
    ∙ ap (λ z. z % r) (sym (mul-add-div_right h (x / (m * r * k) * m * r) (x % (m * r * k))))
    ∙ ap (λ z. z / k % r) (joined x k r m)

pub power_positive : (r n : ℕ) → 0 < r → 0 < r ^ n
power_positive r n h = one-le-pow n r h

next_power : (r n x : ℕ) → x < r ^ suc n → x < r * r ^ n
next_power r n x h = omega (arith, pow-suc r n, h)

-- the highest digit is below the base
pub high_digit : (r n x : ℕ) → 0 < r → x < r ^ suc n → x / r ^ n < r
high_digit r n x b h = div_below x (r ^ n) r (power_positive r n b) (next_power r n x h)

split_power : (r n i : ℕ) → i < n → r ^ n ≡ r ^ i * r * r ^ (n - (i + 1))
split_power r n i h = ap (λ k. r ^ k) (parts n i h) ∙ pow-add r (suc i) (n - (i + 1)) ∙ ap (λ p. p * r ^ (n - (i + 1))) (pow-suc r i)
  where
    parts : (n i : ℕ) → i < n → n ≡ suc i + (n - (i + 1))
    parts n i h = omega arith

-- the digit of track i of a letter in range: the quotient by the power of the tracks behind it, less whole bases
pub digit-quotient : (r n i x : ℕ) → 0 < r → i < n → x < r ^ n → digit r n i x ≡ x / r ^ (n - (i + 1)) % r
unfolding digit digits
digit-quotient r zero i x b h e = absurd (omega arith)
digit-quotient r (suc n) zero x b h e =
    sym (mod-eq_of_lt (high_digit r n x b e)) ∙ ap (λ k. x / r ^ k % r) (behind n)
  where
    behind : (n : ℕ) → n ≡ suc n - (0 + 1)
    behind n = omega arith
digit-quotient r (suc n) (suc i) x b h e =
    digit-quotient r n i (x % r ^ n) b (omega arith) (mod_below x (r ^ n) (power_positive r n b))
    ∙ ap (λ p. x % p / r ^ (n - (i + 1)) % r) (split_power r n i (omega arith))
    ∙ mod-div-mod x (r ^ (n - (i + 1))) r (r ^ i) (power_positive r (n - (i + 1)) b)
    ∙ ap (λ k. x / r ^ k % r) (behind n i)
  where
    behind : (n i : ℕ) → n - (i + 1) ≡ suc n - (suc i + 1)
    behind n i = omega arith

pub length-digits : (r n x : ℕ) → length (digits r n x) ≡ n
unfolding digits
length-digits r zero x = refl
length-digits r (suc n) x = ap suc (length-digits r n (x % r ^ n))

digits_below : (r n x : ℕ) → 0 < r → x < r ^ n → All (λ d. d < r) (digits r n x)
unfolding digits
digits_below r zero x b h = All-nil (λ d. d < r)
digits_below r (suc n) x b h = All-cons (λ d. d < r) (x / r ^ n) (digits r n (x % r ^ n)) (high_digit r n x b h) (digits_below r n (x % r ^ n) b (mod_below x (r ^ n) (power_positive r n b)))

-- the digits of a letter in range
pub digits_are : (r n x : ℕ) → 0 < r → x < r ^ n → AreDigits r n (digits r n x)
digits_are r n x b h = record { count = length-digits r n x; below = digits_below r n x b h }

-- spell the letter
pub number-digits : (r n x : ℕ) → 0 < r → x < r ^ n → number r (digits r n x) ≡ x
unfolding number digits
number-digits r zero x b h = omega (arith, pow-zero r, h)
number-digits r (suc n) x b h =
    ap₂ (λ k y. x / r ^ n * r ^ k + y) (length-digits r n (x % r ^ n)) (number-digits r n (x % r ^ n) b (mod_below x (r ^ n) (power_positive r n b)))
    ∙ div-add-mod' x (r ^ n)

one_more : (r p d y : ℕ) → d < r → y < p → d * p + y < p * r
one_more r p d y h k = omega (arith, mul-le-mul_right p h)

-- what n digits spell is below r to the n
pub number_below : (r : ℕ) (ds : List ℕ) → All (λ d. d < r) ds → number r ds < r ^ length ds
unfolding number
number_below r [] h = omega (arith, pow-zero r)
number_below r (d ∷ ds) h = rw (pow-suc r (length ds)) (one_more r (r ^ length ds) d (number r ds) (All-head (λ d. d < r) d ds h) (number_below r ds (All-tail (λ d. d < r) d ds h)))

digits_of_number : (r : ℕ) (ds : List ℕ) → All (λ d. d < r) ds → digits r (length ds) (number r ds) ≡ ds
unfolding number digits
digits_of_number r [] h = refl
digits_of_number r (d ∷ ds) h =
    ap₂ (λ a x. a ∷ digits r (length ds) x) (div-mul-add d (r ^ length ds) (number r ds) low) (mod-mul-add d (r ^ length ds) (number r ds) low)
    ∙ ap (λ es. d ∷ es) (digits_of_number r ds (All-tail (λ d. d < r) d ds h))
  where
    low : number r ds < r ^ length ds
    low = number_below r ds (All-tail (λ d. d < r) d ds h)

-- the number that n digits spell has those digits
pub digits-number : (r n : ℕ) (ds : List ℕ) → AreDigits r n ds → digits r n (number r ds) ≡ ds
digits-number r n ds h = ap (λ k. digits r k (number r ds)) (sym h.count) ∙ digits_of_number r ds h.below
