-- A track of a lasso has one fraction in lowest terms.
use Rattle.std.proofs.Common.{◌≡◌, ℕ, suc, ◌*◌, ◌^◌, ◌≤◌, ◌<◌, Option, Some, None, arith, refl, ◌∙◌, sym, ap, subst}
use Rattle.std.proofs.Math.IntN.{ℤ, pos, negsuc, ◌*ℤ◌}
use Rattle.std.specs.Prelude.{◌≤ℤ◌, unsigned_abs}
use Rattle.std.specs.Int.{IsGcd}
use Prim.Native.Nat.{◌∣◌}
use Rattle.std.proofs.Math.Nat.{dvd-mul_left, dvd-mul_right, one-dvd}
use Rattle.std.proofs.lemmas.Int.{ints, unsigned_abs-mul}
use Rattle.std.proofs.lemmas.Nat.Gcd.{dvd_antisymm}
use Rattle.integer_laws.proofs.Ring.{times_comm, eq_unscaled}
use Rattle.lash_model.specs.Lassos.{Lasso, denominator, numerator}
use Rattle.fraction_codes.specs.Reading.{IsValue}
use Rattle.fraction_codes.specs.declared.ratio.Ratio.{Ratio}
use Rattle.fraction_codes.proofs.Divisors.{Greatest, greatest_of}
use Rattle.set_answers.specs.Solving.{IsFound, letter_count}
use Rattle.set_answers.proofs.WholeFractions.{cancelled, exchanged}

-- what divides a product and has no common divisor with the one factor divides the other
coprime : (a b c : ℕ) → IsGcd a b 1 → b ∣ (a * c) → b ∣ c
coprime a b c h d = subst (λ x. b ∣ x) (ap (λ g. g * c) one ∙ once c) (found.is.greatest b c d (dvd-mul_right b c))
  where
    found : Greatest a b
    found = greatest_of a b

    one : found.divisor ≡ 1
    one = dvd_antisymm (h.2 found.divisor found.is.first found.is.second) (one-dvd found.divisor)

    once : (c : ℕ) → 1 * c ≡ c
    once c = omega arith

crossed : (a b c d : ℤ) → a *ℤ d ≡ c *ℤ b → unsigned_abs a * unsigned_abs d ≡ unsigned_abs c * unsigned_abs b
crossed a b c d e = sym (unsigned_abs-mul a d) ∙ ap unsigned_abs e ∙ unsigned_abs-mul c b

-- the one denominator divides the other
divides : (v w : Ratio) → IsGcd (unsigned_abs v.num) (unsigned_abs v.den) 1 → v.num *ℤ w.den ≡ w.num *ℤ v.den → unsigned_abs v.den ∣ unsigned_abs w.den
divides v w h e = coprime (unsigned_abs v.num) (unsigned_abs v.den) (unsigned_abs w.den) h
    (subst (λ x. unsigned_abs v.den ∣ x) (sym (crossed v.num v.den w.num w.den e)) (dvd-mul_left (unsigned_abs v.den) (unsigned_abs w.num)))

same_sign : (a b : ℤ) → (pos 1) ≤ℤ a → (pos 1) ≤ℤ b → unsigned_abs a ≡ unsigned_abs b → a ≡ b
same_sign (pos a) (pos b) h k e = ap pos e
same_sign (negsuc a) b h k e = absurd (omega (arith, ints, h))
same_sign (pos a) (negsuc b) h k e = absurd (omega (arith, ints, k))

ratio : ℤ → ℤ → Ratio
ratio a b = record { num = a; den = b }

made : (v w : Ratio) → v.num ≡ w.num → v.den ≡ w.den → v ≡ w
unfolding ratio
made v w p q = ap (λ z. ratio z v.den) p ∙ ap (λ z. ratio w.num z) q

lowest_is_one : (v w : Ratio) → (pos 1) ≤ℤ v.den → (pos 1) ≤ℤ w.den → IsGcd (unsigned_abs v.num) (unsigned_abs v.den) 1
    → IsGcd (unsigned_abs w.num) (unsigned_abs w.den) 1 → v.num *ℤ w.den ≡ w.num *ℤ v.den → v ≡ w
lowest_is_one v w h k g l e = made v w nums dens
  where
    dens : v.den ≡ w.den
    dens = same_sign v.den w.den h k (dvd_antisymm (divides v w g e) (divides w v l (sym e)))

    nums : v.num ≡ w.num
    nums = cancelled v.num w.num w.den k (e ∙ ap (λ z. w.num *ℤ z) dens)

-- both are the fraction of the same numerator and denominator
one_value : (v w : Ratio) (n : ℤ) (c : ℕ) → v.num *ℤ pos (suc c) ≡ n *ℤ v.den → w.num *ℤ pos (suc c) ≡ n *ℤ w.den → v.num *ℤ w.den ≡ w.num *ℤ v.den
one_value v w n c p q = eq_unscaled c (v.num *ℤ w.den) (w.num *ℤ v.den)
    (times_comm (pos (suc c)) (v.num *ℤ w.den) ∙ exchanged v.num w.den (pos (suc c)) ∙ ap (λ z. z *ℤ w.den) p ∙ exchanged n v.den w.den
    ∙ ap (λ z. z *ℤ v.den) (sym q) ∙ exchanged w.num (pos (suc c)) v.den ∙ times_comm (w.num *ℤ v.den) (pos (suc c)))

value_is_one : (r n i c : ℕ) (x : Lasso) (v w : Ratio) → denominator r x ≡ suc c → IsValue r n i x v → IsValue r n i x w → v ≡ w
value_is_one r n i c x v w d a b = lowest_is_one v w a.positive b.positive a.lowest b.lowest
    (one_value v w (numerator r n i x) c (subst (λ k. v.num *ℤ pos k ≡ numerator r n i x *ℤ v.den) d a.same)
    (subst (λ k. w.num *ℤ pos k ≡ numerator r n i x *ℤ w.den) d b.same))

apart : (a b : ℕ) → a < b → b ≤ a → ⊥
apart a b h k = omega (arith, h, k)

pub found_is_one : (r n i c : ℕ) (x : Lasso) (a b : Option Ratio) → denominator r x ≡ suc c → IsFound r n i x a → IsFound r n i x b → a ≡ b
found_is_one r n i c x None None d p q = refl
found_is_one r n i c x None (Some w) d p q = absurd (apart (2 ^ 100) (r ^ letter_count x) p q.1)
found_is_one r n i c x (Some v) None d p q = absurd (apart (2 ^ 100) (r ^ letter_count x) q p.1)
found_is_one r n i c x (Some v) (Some w) d p q = ap Some (value_is_one r n i c x v w d p.0 q.0)
