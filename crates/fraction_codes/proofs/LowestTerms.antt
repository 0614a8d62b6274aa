-- A fraction in lowest terms: both parts over their greatest common divisor.
use Rattle.std.proofs.Common.{◌≡◌, ℕ, zero, suc, ◌*◌, ◌/◌, ◌<◌, Bool, true, false, arith, refl, ◌∙◌, sym, ap, subst}
use Rattle.std.proofs.Math.IntN.{ℤ, pos, neg_ℤ, ◌*ℤ◌}
use Rattle.std.specs.Prelude.{◌≤ℤ◌, unsigned_abs}
use Rattle.std.specs.Int.{IsGcd}
use Prim.Native.Nat.{◌∣◌}
use Rattle.std.proofs.Math.Nat.{one-dvd, dvd_of_mul-dvd-mul_left, mul-dvd-mul_left}
use Rattle.std.proofs.lemmas.Int.{ints}
use Rattle.integer_laws.specs.Differences.{diff}
use Rattle.integer_laws.proofs.Ring.{diff_same, diff_mul, pos_diff}
use Rattle.lash_model.specs.Lassos.{Lasso, denominator, numerator}
use Rattle.fraction_codes.specs.declared.ratio.Ratio.{Ratio}
use Rattle.fraction_codes.specs.Reading.{IsValue}
use Rattle.fraction_codes.specs.Steps.{IsGreatestDivisor, IsLowest, signed}
use Rattle.fraction_codes.proofs.Divisors.{quotient_times, factor_positive, greatest_positive}

neg_pos_diff : (n : ℕ) → neg_ℤ (pos n) ≡ diff 0 n
unfolding diff
neg_pos_diff n = omega (arith, ints)

abs_signed : (negative : Bool) (m : ℕ) → unsigned_abs (signed negative m) ≡ m
abs_signed false m = refl
abs_signed true zero = refl
abs_signed true (suc m) = refl

signed_times : (negative : Bool) (g p y : ℕ) → signed negative p *ℤ pos (g * y) ≡ signed negative (g * p) *ℤ pos y
signed_times false g p y = ap pos (regroup g p y)
  where
    regroup : (g p y : ℕ) → p * (g * y) ≡ g * p * y
    regroup g p y = omega arith
signed_times true g p y = ap (λ z. z *ℤ pos (g * y)) (neg_pos_diff p) ∙ by g p y ∙ ap (λ z. z *ℤ pos y) (sym (neg_pos_diff (g * p)))
  where
    by : (g p y : ℕ) → diff 0 p *ℤ pos (g * y) ≡ diff 0 (g * p) *ℤ pos y
    by g p y = simp (pos_diff, diff_mul) (diff_same _ _ _ _ (omega arith))

pub lowest_is : (negative : Bool) (num den g : ℕ) (z w : ℤ) → 0 < den → IsGreatestDivisor num den g → z ≡ signed negative (num / g) → w ≡ pos (den / g) → IsLowest (signed negative num) den (record { num = z; den = w })
lowest_is negative num den g z w h is ez ew = record {
  positive = subst (λ x. (pos 1) ≤ℤ x) (sym ew) (omega (arith, ints, factor_positive g (den / g) den h whole_den));
  lowest = subst (λ x. IsGcd (unsigned_abs x) (unsigned_abs w) 1) (sym ez) (subst (λ x. IsGcd (unsigned_abs (signed negative (num / g))) (unsigned_abs x) 1) (sym ew) (subst (λ x. IsGcd x (den / g) 1) (sym (abs_signed negative (num / g))) prime));
  same = ap (λ x. x *ℤ pos den) ez ∙ ap (λ d. signed negative (num / g) *ℤ pos d) whole_den ∙ signed_times negative g (num / g) (den / g) ∙ ap (λ m. signed negative m *ℤ pos (den / g)) (sym whole_num) ∙ ap (λ x. signed negative num *ℤ x) (sym ew);
}
  where
    whole_num : num ≡ g * (num / g)
    whole_num = quotient_times g num is.first

    whole_den : den ≡ g * (den / g)
    whole_den = quotient_times g den is.second

    g_positive : 0 < g
    g_positive = greatest_positive num den g h is

    one_times : (x : ℕ) → x ≡ x * 1
    one_times x = omega arith

    divides : (d x y : ℕ) → y ≡ g * x → d ∣ x → (g * d) ∣ (y * 1)
    divides d x y e p = subst (λ m. (g * d) ∣ m) (sym e ∙ one_times y) (mul-dvd-mul_left d g p)

    prime : IsGcd (num / g) (den / g) 1
    prime = (one-dvd (num / g), one-dvd (den / g), λ d p q. dvd_of_mul-dvd-mul_left d g_positive (is.greatest (g * d) 1 (divides d (num / g) num whole_num p) (divides d (den / g) den whole_den q)))

-- over the denominator of a lasso
pub value_is : (r n i : ℕ) (x : Lasso) (z : ℤ) (den : ℕ) (v : Ratio) → den ≡ denominator r x → z ≡ numerator r n i x → IsLowest z den v → IsValue r n i x v
value_is r n i x z den v ed ez is = record {
  positive = is.positive;
  lowest = is.lowest;
  same = ap (λ d. v.num *ℤ pos d) (sym ed) ∙ is.same ∙ ap (λ y. y *ℤ v.den) ez;
}
