-- Numerals of numbers: digit by digit, and what begins them.
use Rattle.std.proofs.Common.{◌≡◌, ℕ, zero, suc, ◌+◌, ◌*◌, ◌-◌, ◌/◌, ◌%◌, ◌^◌, ◌≤◌, ◌<◌, List, [], ◌∷◌, ◌++◌, length, decimal, arith, refl, ◌∙◌, sym}
use Rattle.std.proofs.Common.{ap, subst}
use Rattle.std.specs.Prelude.{nat_lt, if◌then◌else◌}
use Rattle.std.proofs.Common.{length-append}
use Rattle.std.proofs.lemmas.Bool.{cases_lt}
use Rattle.std.proofs.lemmas.Fmt.{decimal_by_steps}
use mathlib.Core.Logic.{◌⊎◌, inl, inr}
use Rattle.text_laws.specs.Numerals.{numeral_by, numeral, spelled_after}

chosen : {A : Type 0} (n : ℕ) (a b : A) → n < 10 → (if nat_lt n 10 then a else b) ≡ a
chosen n a b h = grind arith

not_chosen : {A : Type 0} (n : ℕ) (a b : A) → 10 ≤ n → (if nat_lt n 10 then a else b) ≡ b
not_chosen n a b h = grind arith

-- room for more digits changes nothing
by_enough : (k m n : ℕ) → n ≤ k → n ≤ m → numeral_by k n ≡ numeral_by m n
by_enough zero zero n h l = refl
by_enough zero (suc m) n h l = sym (chosen n ((48 + n) ∷ []) (numeral_by m (n / 10) ++ (48 + n % 10) ∷ []) (omega (arith, h)))
by_enough (suc k) zero n h l = chosen n ((48 + n) ∷ []) (numeral_by k (n / 10) ++ (48 + n % 10) ∷ []) (omega (arith, l))
by_enough (suc k) (suc m) n h l = by (cases_lt n 10) (by_enough k m (n / 10))
  where
    by : (n < 10) ⊎ (10 ≤ n) → (n / 10 ≤ k → n / 10 ≤ m → numeral_by k (n / 10) ≡ numeral_by m (n / 10)) → numeral_by (suc k) n ≡ numeral_by (suc m) n
    by (inl lt) e = chosen n ((48 + n) ∷ []) (numeral_by k (n / 10) ++ (48 + n % 10) ∷ []) lt
        ∙ sym (chosen n ((48 + n) ∷ []) (numeral_by m (n / 10) ++ (48 + n % 10) ∷ []) lt)
    by (inr ge) e = not_chosen n ((48 + n) ∷ []) (numeral_by k (n / 10) ++ (48 + n % 10) ∷ []) ge
        ∙ ap (λ ds. ds ++ (48 + n % 10) ∷ []) (e (omega (arith, h, ge)) (omega (arith, l, ge)))
        ∙ sym (not_chosen n ((48 + n) ∷ []) (numeral_by m (n / 10) ++ (48 + n % 10) ∷ []) ge)

pub numeral_small : (n : ℕ) → n < 10 → numeral n ≡ (48 + n) ∷ []
unfolding numeral
numeral_small zero h = refl
numeral_small (suc k) h = chosen (suc k) ((48 + suc k) ∷ []) (numeral_by k (suc k / 10) ++ (48 + suc k % 10) ∷ []) h

-- the last digit
pub numeral_step : (n : ℕ) → 10 ≤ n → numeral n ≡ numeral (n / 10) ++ (48 + n % 10) ∷ []
unfolding numeral
numeral_step zero h = absurd (omega (arith, h))
numeral_step (suc k) h = not_chosen (suc k) ((48 + suc k) ∷ []) (numeral_by k (suc k / 10) ++ (48 + suc k % 10) ∷ []) h
    ∙ ap (λ ds. ds ++ (48 + suc k % 10) ∷ []) (by_enough k (suc k / 10) (suc k / 10) (omega (arith, h)) (omega arith))

-- one digit more
pub numeral_more : (x d : ℕ) → 0 < x → d < 10 → numeral (x * 10 + d) ≡ numeral x ++ (48 + d) ∷ []
numeral_more x d some small = numeral_step (x * 10 + d) (omega (arith, some))
    ∙ ap (λ q. numeral q ++ (48 + (x * 10 + d) % 10) ∷ []) (omega (arith, small))
    ∙ ap (λ r. numeral x ++ (48 + r) ∷ []) (omega (arith, small))

-- induction over the digits: one digit, then one more after the others
pub numeral_by_steps : (P : ℕ → List ℕ → Type 0) → ((n : ℕ) → n < 10 → P n ((48 + n) ∷ []))
    → ((n : ℕ) (ds : List ℕ) → 10 ≤ n → P (n / 10) ds → P n (ds ++ (48 + n % 10) ∷ [])) → (n : ℕ) → P n (numeral n)
numeral_by_steps P one more n = by n n (omega arith)
  where
    by : (k n : ℕ) → n ≤ k → P n (numeral n)
    by zero n h = subst (P n) (sym (numeral_small n (omega (arith, h)))) (one n (omega (arith, h)))
    by (suc k) n h = at (cases_lt n 10) (by k (n / 10))
      where
        at : (n < 10) ⊎ (10 ≤ n) → (n / 10 ≤ k → P (n / 10) (numeral (n / 10))) → P n (numeral n)
        at (inl lt) e = subst (P n) (sym (numeral_small n lt)) (one n lt)
        at (inr ge) e = subst (P n) (sym (numeral_step n ge)) (more n (numeral (n / 10)) ge (e (omega (arith, h, ge))))

-- each byte is a digit
unfoldable pub AreDigits : List ℕ → Type 0
AreDigits [] = Unit {0}
AreDigits (b ∷ bs) = ((47 < b) × (b < 58)) × AreDigits bs

push_digit : (ds : List ℕ) (b : ℕ) → AreDigits ds → 47 < b → b < 58 → AreDigits (ds ++ b ∷ [])
unfolding AreDigits
push_digit [] b h k l = ((k, l), tt)
push_digit (d ∷ ds) b h k l = (h.0, push_digit ds b h.1 k l)

pub numeral_digits : (n : ℕ) → AreDigits (numeral n)
unfolding AreDigits
numeral_digits n = numeral_by_steps (λ n ds. AreDigits ds) (λ n lt. ((omega arith, omega (arith, lt)), tt))
    (λ n ds ge h. push_digit ds (48 + n % 10) h (omega arith) (omega arith)) n

spelled_push : (x : ℕ) (ds : List ℕ) (b : ℕ) → spelled_after x (ds ++ b ∷ []) ≡ spelled_after x ds * 10 + (b - 48)
spelled_push x [] b = refl
spelled_push x (d ∷ ds) b = spelled_push (x * 10 + (d - 48)) ds b

pub numeral_spells : (n : ℕ) → spelled_after 0 (numeral n) ≡ n
numeral_spells n = numeral_by_steps (λ n ds. spelled_after 0 ds ≡ n) (λ n lt. one n) more n
  where
    one : (n : ℕ) → 0 * 10 + (48 + n - 48) ≡ n
    one n = omega arith

    more : (n : ℕ) (ds : List ℕ) → 10 ≤ n → spelled_after 0 ds ≡ n / 10 → spelled_after 0 (ds ++ (48 + n % 10) ∷ []) ≡ n
    more n ds ge e = spelled_push 0 ds (48 + n % 10) ∙ last (spelled_after 0 ds) e
      where
        last : (x : ℕ) → x ≡ n / 10 → x * 10 + (48 + n % 10 - 48) ≡ n
        last x e = omega (arith, e)

pub numeral_injective : (m n : ℕ) → numeral m ≡ numeral n → m ≡ n
numeral_injective m n e = sym (numeral_spells m) ∙ ap (spelled_after 0) e ∙ numeral_spells n

spelled_append : (x : ℕ) (ds es : List ℕ) → spelled_after x (ds ++ es) ≡ spelled_after (spelled_after x ds) es
spelled_append x [] es = refl
spelled_append x (d ∷ ds) es = spelled_append (x * 10 + (d - 48)) ds es

spelled_grows : (x : ℕ) (ds : List ℕ) → x ≤ spelled_after x ds
spelled_grows x [] = omega arith
spelled_grows x (d ∷ ds) = omega (arith, spelled_grows (x * 10 + (d - 48)) ds)

-- a number whose numeral goes on from another's is no less
pub numeral_begun : (n y : ℕ) (more : List ℕ) → numeral n ≡ numeral y ++ more → y ≤ n
numeral_begun n y more e =
    let is : n ≡ spelled_after y more = sym (numeral_spells n) ∙ ap (spelled_after 0) e ∙ spelled_append 0 (numeral y) more
    ∙ ap (λ x. spelled_after x more) (numeral_spells y) in
    omega (arith, is, spelled_grows y more)

-- only 0 begins with the digit 0, and with nothing after
IsOfZero : ℕ → List ℕ → Type 0
IsOfZero n [] = ⊥
IsOfZero n (b ∷ bs) = b ≡ 48 → (n ≡ 0) × (bs ≡ [])

pub numeral_of_zero : (n : ℕ) (more : List ℕ) → numeral n ≡ 48 ∷ more → (n ≡ 0) × (more ≡ [])
unfolding IsOfZero
numeral_of_zero n more e = subst (IsOfZero n) e (numeral_by_steps IsOfZero (λ n lt e. (omega (arith, e), refl)) further n) refl
  where
    further : (n : ℕ) (ds : List ℕ) → 10 ≤ n → IsOfZero (n / 10) ds → IsOfZero n (ds ++ (48 + n % 10) ∷ [])
    further n [] ge h = absurd h
    further n (b ∷ bs) ge h = λ e. absurd (omega (arith, ge, (h e).0))

pub numeral_nonempty : (n : ℕ) → 0 < length (numeral n)
numeral_nonempty n = numeral_by_steps (λ n ds. 0 < length ds) (λ n lt. omega arith) (λ n ds ge h. omega (arith, length-append ds ((48 + n % 10) ∷ []))) n

-- what formatting writes of a number of 64 bits is its numeral
pub decimal_numeral : (n : ℕ) → n < 2 ^ 64 → decimal n ≡ numeral n
decimal_numeral n h = decimal_by_steps (λ n ds. ds ≡ numeral n) (λ n lt. sym (numeral_small n lt))
    (λ n ds ge e. ap (λ xs. xs ++ (48 + n % 10) ∷ []) e ∙ sym (numeral_step n ge)) n h
