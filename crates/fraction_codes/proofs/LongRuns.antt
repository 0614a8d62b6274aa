-- Long division of several numbers in step: its letters are in range, and so many steps give the digits of the quotient by the
-- divisor.
use Rattle.std.proofs.Common.{◌≡◌, ℕ, zero, suc, ◌+◌, ◌*◌, ◌/◌, ◌%◌, ◌^◌, ◌<◌, List, length, map, get_or, arith, refl, ◌∙◌, sym, ap, subst}
use Rattle.std.specs.Prelude.{All}
use Rattle.std.proofs.Math.Nat.{pow-suc, pow-zero}
use Rattle.std.proofs.lemmas.Nat.{div-add-mod', div_below, mod_below, same_from_place}
use Rattle.std.proofs.lemmas.List.{length-map, get_or-map}
use Rattle.std.proofs.lemmas.List.Elements.{All-nil, All-cons, All-map, All-weaker}
use Rattle.lash_model.specs.Letters.{AreDigits, digit}
use Rattle.lash_model.specs.Words.{spelled}
use Rattle.lash_model.proofs.Digits.{digits-number, number_below}
use Rattle.fraction_codes.specs.LongDivision.{next_letter, next_rests, rests_after, letters_of}

pub length-letters_of : (r d k : ℕ) (rests : List ℕ) → length (letters_of r d k rests) ≡ k
unfolding letters_of
length-letters_of r d zero rests = refl
length-letters_of r d (suc k) rests = ap suc (length-letters_of r d k (next_rests r d rests))

pub rests_add : (r d a b : ℕ) (rests : List ℕ) → rests_after r d (a + b) rests ≡ rests_after r d b (rests_after r d a rests)
unfolding rests_after
rests_add r d zero b rests = ap (λ k. rests_after r d k rests) (zero_plus b)
  where
    zero_plus : (b : ℕ) → zero + b ≡ b
    zero_plus b = omega arith
rests_add r d (suc a) b rests = ap (λ k. rests_after r d k rests) (suc_plus a b) ∙ rests_add r d a b (next_rests r d rests)
  where
    suc_plus : (a b : ℕ) → suc a + b ≡ suc (a + b)
    suc_plus a b = omega arith

pub next_below : (r d : ℕ) (rests : List ℕ) → All (λ p. p < d) rests → All (λ p. p < d) (next_rests r d rests)
next_below r d rests all = All-map (λ p. p < d) (λ p. r * p % d) rests (All-weaker (λ p. p < d) (λ p. r * p % d < d) (λ p h. mod_below (r * p) d (omega (arith, h))) rests all)

pub length-rests_after : (r d k : ℕ) (rests : List ℕ) → length (rests_after r d k rests) ≡ length rests
unfolding rests_after
length-rests_after r d zero rests = refl
length-rests_after r d (suc k) rests = length-rests_after r d k (next_rests r d rests) ∙ length-map rests (λ p. r * p % d)

pub rests_below : (r d k : ℕ) (rests : List ℕ) → All (λ p. p < d) rests → All (λ p. p < d) (rests_after r d k rests)
unfolding rests_after
rests_below r d zero rests all = all
rests_below r d (suc k) rests all = rests_below r d k (next_rests r d rests) (next_below r d rests all)

pub quotient_below : (r d p : ℕ) → 0 < r → p < d → r * p / d < r
quotient_below r d p h k = div_below (r * p) d r (omega (arith, k)) (scaled r p d h k)
  where
    scaled : (r p d : ℕ) → 0 < r → p < d → r * p < r * d
    scaled r p d h k = grind arith

pub quotients_below : (r d : ℕ) (rests : List ℕ) → 0 < r → All (λ p. p < d) rests → All (λ q. q < r) (map (λ p. r * p / d) rests)
quotients_below r d rests h all = All-map (λ q. q < r) (λ p. r * p / d) rests (All-weaker (λ p. p < d) (λ p. r * p / d < r) (λ p k. quotient_below r d p h k) rests all)

pub letter_below : (r d : ℕ) (rests : List ℕ) → 0 < r → All (λ p. p < d) rests → next_letter r d rests < r ^ length rests
letter_below r d rests h all = subst (λ n. next_letter r d rests < r ^ n) (length-map rests (λ p. r * p / d)) (number_below r (map (λ p. r * p / d) rests) (quotients_below r d rests h all))

pub letters_below : (r d k : ℕ) (rests : List ℕ) → 0 < r → All (λ p. p < d) rests → All (λ l. l < r ^ length rests) (letters_of r d k rests)
unfolding letters_of
letters_below r d zero rests h all = All-nil (λ l. l < r ^ length rests)
letters_below r d (suc k) rests h all = All-cons (λ l. l < r ^ length rests) (next_letter r d rests) (letters_of r d k (next_rests r d rests)) (letter_below r d rests h all) (subst (λ n. All (λ l. l < r ^ n) (letters_of r d k (next_rests r d rests))) (length-map rests (λ p. r * p % d)) (letters_below r d k (next_rests r d rests) h (next_below r d rests all)))

-- the digits of a step's letter are the quotients
pub digit_is : (r d i : ℕ) (rests : List ℕ) → 0 < r → i < length rests → All (λ p. p < d) rests → digit r (length rests) i (next_letter r d rests) ≡ r * get_or rests i 0 / d
unfolding digit
digit_is r d i rests h k all = ap (λ ds. get_or ds i 0) (digits-number r (length rests) (map (λ p. r * p / d) rests) are) ∙ get_or-map (λ p. r * p / d) rests i 0 0 k
  where
    are : AreDigits r (length rests) (map (λ p. r * p / d) rests)
    are = record { count = length-map rests (λ p. r * p / d); below = quotients_below r d rests h all }

-- so many steps: the number, moved up, is the divisor times what was spelled, and the remainder
pub long_is : (r d n i k : ℕ) (rests : List ℕ) → 0 < r → n ≡ length rests → i < n → All (λ p. p < d) rests → r ^ k * get_or rests i 0 ≡ d * spelled r n i (letters_of r d k rests) + get_or (rests_after r d k rests) i 0
unfolding letters_of rests_after spelled
long_is r d n i zero rests h e l all = rw (pow-zero r) (omega arith)
long_is r d n i (suc k) rests h e l all = together (r ^ k) (r ^ suc k) r (get_or rests i 0) (r * get_or rests i 0 / d) (r * get_or rests i 0 % d) d (spelled r n i (letters_of r d k (next_rests r d rests))) (get_or (rests_after r d k (next_rests r d rests)) i 0) (next r k) (sym (div-add-mod' (r * get_or rests i 0) d)) (before (long_is r d n i k (next_rests r d rests) h (e ∙ sym (length-map rests (λ p. r * p % d))) l (next_below r d rests all))) ∙ ap (λ x. d * x + get_or (rests_after r d k (next_rests r d rests)) i 0) (sym spelled_is)
  where
    next : (r k : ℕ) → r ^ suc k ≡ r * r ^ k
    next r k = omega (arith, pow-suc r k)

    inside : i < length rests
    inside = omega (arith, e, l)

    before : r ^ k * get_or (next_rests r d rests) i 0 ≡ d * spelled r n i (letters_of r d k (next_rests r d rests)) + get_or (rests_after r d k (next_rests r d rests)) i 0 → r ^ k * (r * get_or rests i 0 % d) ≡ d * spelled r n i (letters_of r d k (next_rests r d rests)) + get_or (rests_after r d k (next_rests r d rests)) i 0
    before ih = ap (λ x. r ^ k * x) (sym (get_or-map (λ p. r * p % d) rests i 0 0 inside)) ∙ ih

    first : digit r n i (next_letter r d rests) ≡ r * get_or rests i 0 / d
    first = ap (λ m. digit r m i (next_letter r d rests)) e ∙ digit_is r d i rests h inside all

    spelled_is : digit r n i (next_letter r d rests) * r ^ length (letters_of r d k (next_rests r d rests)) + spelled r n i (letters_of r d k (next_rests r d rests)) ≡ (r * get_or rests i 0 / d) * r ^ k + spelled r n i (letters_of r d k (next_rests r d rests))
    spelled_is = ap (λ m. digit r n i (next_letter r d rests) * r ^ m + spelled r n i (letters_of r d k (next_rests r d rests))) (length-letters_of r d k (next_rests r d rests)) ∙ ap (λ m. m * r ^ k + spelled r n i (letters_of r d k (next_rests r d rests))) first

    together : (p q r x u m d s z : ℕ) → q ≡ r * p → r * x ≡ u * d + m → p * m ≡ d * s + z → q * x ≡ d * (u * p + s) + z
    together p q r x u m d s z eq ex em = ap (λ y. y * x) eq ∙ turned r p x ∙ ap (λ y. p * y) ex ∙ spread p u d m ∙ ap (λ y. p * (u * d) + y) em ∙ gathered p u d s z
      where
        turned : (r p x : ℕ) → r * p * x ≡ p * (r * x)
        turned r p x = omega arith

        spread : (p u d m : ℕ) → p * (u * d + m) ≡ p * (u * d) + p * m
        spread p u d m = omega arith

        gathered : (p u d s z : ℕ) → p * (u * d) + (d * s + z) ≡ d * (u * p + s) + z
        gathered p u d s z = omega arith

-- division by a power of the base, as many steps as its exponent, spells the numbers themselves
pub power_spells : (r n i k : ℕ) (rests : List ℕ) → 0 < r → n ≡ length rests → i < n → All (λ p. p < r ^ k) rests → spelled r n i (letters_of r (r ^ k) k rests) ≡ get_or rests i 0
power_spells r n i k rests h e l all = sym (same_from_place (get_or rests i 0) 0 (spelled r n i (letters_of r (r ^ k) k rests)) (get_or (rests_after r (r ^ k) k rests) i 0) (r ^ k) (omega (arith, all i 0 inside)) (rests_below r (r ^ k) k rests all i 0 (subst (λ m. i < m) (sym (length-rests_after r (r ^ k) k rests)) inside)) turned).0
  where
    inside : i < length rests
    inside = omega (arith, e, l)

    turned : get_or rests i 0 * r ^ k + 0 ≡ spelled r n i (letters_of r (r ^ k) k rests) * r ^ k + get_or (rests_after r (r ^ k) k rests) i 0
    turned = swap (get_or rests i 0) (r ^ k) (spelled r n i (letters_of r (r ^ k) k rests)) (get_or (rests_after r (r ^ k) k rests) i 0) (long_is r (r ^ k) n i k rests h e l all)
      where
        swap : (x p s z : ℕ) → p * x ≡ p * s + z → x * p + 0 ≡ s * p + z
        swap x p s z h = omega (arith, h)
