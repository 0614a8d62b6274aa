-- Adding up coefficient times digit, term by term.
use Rattle.std.proofs.Common.{◌≡◌, ℕ, zero, suc, ◌+◌, ◌-◌, ◌*◌, ◌/◌, ◌^◌, ◌≤◌, ◌<◌, List, [], ◌∷◌, length, drop, arith, refl, ◌∙◌, sym, ap, subst, unsigned_abs}
use Rattle.std.proofs.Math.IntN.{ℤ, pos, negsuc, neg_ℤ, ◌+ℤ◌, ◌*ℤ◌}
use Rattle.std.specs.List.{slice_index_or}
use Rattle.std.proofs.lemmas.Int.{ints}
use Rattle.lash_model.specs.Formulas.{coefficient_sum}
use Rattle.lash_model.specs.Meaning.{total}
use Rattle.std.proofs.lemmas.Nat.{mod_below}
use Rattle.integer_laws.proofs.Entries.{entry-vector}
use Rattle.lash_model.specs.Letters.{digit}
use Rattle.threshold_laws.specs.Thresholds.{letter_total}
use Rattle.lash_model.proofs.Digits.{digit-quotient}
use Rattle.linear_atoms.specs.Closing.{IsSmallTotal}
use Rattle.linear_atoms.specs.Totals.{IsSumming, letter_digits}

pub drop_at : (ts : List (ℕ × ℤ)) (at : ℕ) (d : ℕ × ℤ) → at < length ts → drop at ts ≡ slice_index_or ts at d ∷ drop (suc at) ts
drop_at [] at d h = absurd (omega arith)
drop_at (t ∷ ts) zero d h = refl
drop_at (t ∷ ts) (suc at) d h = drop_at ts at d (omega (arith, h))

pub summing_none : (terms : List (ℕ × ℤ)) (ns : List ℤ) (k : ℕ) → IsSumming terms ns k 0 (pos 0)
summing_none terms ns k = record { rest = omega (arith, ints); small = omega arith }

neg_abs : (n : ℕ) → unsigned_abs (neg_ℤ (pos n)) ≡ n
neg_abs zero = refl
neg_abs (suc n) = refl

times_abs : (a : ℤ) (d : ℕ) → unsigned_abs (a *ℤ pos d) ≡ unsigned_abs a * d
times_abs (pos a) d = refl
times_abs (negsuc a) d = neg_abs (suc a * d)

sum_abs : (a b : ℤ) → unsigned_abs (a +ℤ b) ≤ unsigned_abs a + unsigned_abs b
sum_abs a b = grind (arith, ints)

at_most_times : (a d k : ℕ) → d ≤ k → a * d ≤ k * a
at_most_times a d k h = grind arith

moved : (x y z w : ℤ) → (x +ℤ y) +ℤ z ≡ w → y +ℤ (z +ℤ x) ≡ w
moved x y z w h = omega (arith, ints)

pub summing_more : (terms : List (ℕ × ℤ)) (ns : List ℤ) (k at : ℕ) (sum : ℤ) (d : ℕ × ℤ) (digit : ℕ) → IsSumming terms ns k at sum → at < length terms → slice_index_or ns (slice_index_or terms at d).0 (pos 0) ≡ pos digit → digit ≤ k → IsSumming terms ns k (at + 1) (sum +ℤ ((slice_index_or terms at d).1 *ℤ pos digit))
unfolding total coefficient_sum
summing_more terms ns k at sum d digit s h e below =
    let t : ℕ × ℤ = slice_index_or terms at d in
    let opened : drop at terms ≡ t ∷ drop (suc at) terms = drop_at terms at d h in
    let next : suc at ≡ at + 1 = omega arith in
    let rest : ((t.1 *ℤ pos digit) +ℤ total (drop (at + 1) terms) ns) +ℤ sum ≡ total terms ns =
    ap (λ i. ((t.1 *ℤ pos digit) +ℤ total (drop i terms) ns) +ℤ sum) (sym next) ∙ ap (λ x. ((t.1 *ℤ x) +ℤ total (drop (suc at) terms) ns) +ℤ sum) (sym e) ∙ ap (λ ts. total ts ns +ℤ sum) (sym opened) ∙ s.rest in
    let weight : coefficient_sum (drop at terms) ≡ unsigned_abs t.1 + coefficient_sum (drop (at + 1) terms) = ap coefficient_sum opened ∙ ap (λ i. unsigned_abs t.1 + coefficient_sum (drop i terms)) next in
    record {
      rest = moved (t.1 *ℤ pos digit) (total (drop (at + 1) terms) ns) sum (total terms ns) rest;
      small = bounded (unsigned_abs sum) (unsigned_abs (sum +ℤ (t.1 *ℤ pos digit))) (unsigned_abs t.1) (coefficient_sum (drop (at + 1) terms)) (coefficient_sum (drop at terms)) (coefficient_sum terms) s.small weight (omega (arith, sum_abs sum (t.1 *ℤ pos digit), times_abs t.1 digit, at_most_times (unsigned_abs t.1) digit k below));
    }
  where
    bounded : (x y a r w all : ℕ) → x + k * w ≤ k * all → w ≡ a + r → y ≤ x + k * a → y + k * r ≤ k * all
    bounded x y a r w all h e g = omega (arith, h, ap (λ v. k * v) e, g)

-- what is left is never more than the whole, so each sum and each coefficient is within it
pub summing_small : (terms : List (ℕ × ℤ)) (ns : List ℤ) (k at : ℕ) (sum : ℤ) → IsSumming terms ns k at sum → unsigned_abs sum ≤ k * coefficient_sum terms
summing_small terms ns k at sum s = omega (arith, s.small)

pub coefficient_within : (terms : List (ℕ × ℤ)) (at : ℕ) (d : ℕ × ℤ) → at < length terms → unsigned_abs (slice_index_or terms at d).1 ≤ coefficient_sum terms
unfolding coefficient_sum
coefficient_within [] at d h = absurd (omega arith)
coefficient_within (t ∷ ts) zero d h = omega arith
coefficient_within (t ∷ ts) (suc at) d h = omega (arith, coefficient_within ts at d (omega (arith, h)))

pub drop_all : (ts : List (ℕ × ℤ)) → drop (length ts) ts ≡ []
drop_all [] = refl
drop_all (t ∷ ts) = drop_all ts

pub summing_all : (terms : List (ℕ × ℤ)) (ns : List ℤ) (k at : ℕ) (sum : ℤ) → IsSumming terms ns k at sum → at ≡ length terms → sum ≡ total terms ns
unfolding total
summing_all terms ns k at sum s e = omega (arith, ints, s.rest, ap (λ ts. total ts ns) (ap (λ i. drop i terms) e ∙ drop_all terms))

pub entry-letter_digits : (r n l p : ℕ) → p < n → slice_index_or (letter_digits r n l) p (pos 0) ≡ pos (digit r n p l)
unfolding letter_digits
entry-letter_digits r n l p h = entry-vector (λ i. pos (digit r n i l)) n p h

pub total-letter_digits : (terms : List (ℕ × ℤ)) (r n l : ℕ) → total terms (letter_digits r n l) ≡ letter_total terms r n l
unfolding letter_digits letter_total
total-letter_digits terms r n l = refl

pub digit_below : (r n l p : ℕ) → 0 < r → p < n → l < r ^ n → digit r n p l < r
digit_below r n l p h k b = subst (λ x. x < r) (sym (digit-quotient r n p l h k b)) (mod_below (l / r ^ (n - (p + 1))) r h)

pub small_total : (terms : List (ℕ × ℤ)) (n base : ℕ) (sum : ℤ) → unsigned_abs sum ≤ (base - 1) * coefficient_sum terms → coefficient_sum terms ≤ 2 ^ 24 → base ≤ 16 → unsigned_abs sum ≤ 2 ^ 28
small_total terms n base sum h k b = omega (arith, h, times_most (base - 1) (coefficient_sum terms) (omega (arith, b)) k)
  where
    times_most : (a c : ℕ) → a ≤ 15 → c ≤ 2 ^ 24 → a * c ≤ 15 * 2 ^ 24
    times_most a c h k = grind arith

pub window_total : (terms : List (ℕ × ℤ)) (base : ℕ) (sum : ℤ) → unsigned_abs sum ≤ (base - 1) * coefficient_sum terms → coefficient_sum terms ≤ 2 ^ 24 → 2 ≤ base → IsSmallTotal base sum
window_total terms base sum h k b = omega (arith, h, times_most (base - 1) (coefficient_sum terms) k, one_less base b)
  where
    times_most : (a c : ℕ) → c ≤ 2 ^ 24 → a * c ≤ a * 2 ^ 24
    times_most a c k = grind arith

    one_less : (b : ℕ) → 2 ≤ b → (b - 1) * 2 ^ 24 + 2 ^ 24 ≡ b * 2 ^ 24
    one_less b h = omega (arith, h)
