-- Divisors: Euclid's algorithm keeps the greatest common divisor by its multiples, and least common multiples come from it.
use Rattle.std.proofs.Common.{◌≡◌, ℕ, zero, suc, ◌+◌, ◌*◌, ◌/◌, ◌%◌, ◌≤◌, ◌<◌, arith, refl, ◌∙◌, sym, ap, subst}
use Prim.Native.Nat.{◌∣◌}
use Rattle.std.proofs.Math.Nat.{dvd-mul_left, dvd-mul_right, dvd-mul_left_of_dvd, dvd-add_iff_right, dvd-mod_iff, mul-dvd-mul_left, mul-dvd-mul_right, dvd_of_mul-dvd-mul_left, mul-div_cancel'}
use Rattle.std.proofs.lemmas.Nat.{div-add-mod', mod_below}
use Rattle.std.proofs.lemmas.Nat.Gcd.{dvd_refl, dvd-zero}
use Rattle.fraction_codes.specs.Steps.{IsGreatestDivisor, IsLeastMultiple}

pub multiple : (n k m : ℕ) → m ≡ n * k → n ∣ m
multiple n k m e = subst (λ x. n ∣ x) (sym e) (dvd-mul_right n k)

pub quotient_times : (n m : ℕ) → n ∣ m → m ≡ n * (m / n)
quotient_times n m h = sym (mul-div_cancel' n h)

-- a factor of a positive number is positive
pub factor_positive : (n k m : ℕ) → 0 < m → m ≡ n * k → 0 < k
factor_positive n zero m h e = absurd (omega (arith, h, e))
factor_positive n (suc k) m h e = omega arith

pub divisor_positive : (n k m : ℕ) → 0 < m → m ≡ n * k → 0 < n
divisor_positive zero k m h e = absurd (omega (arith, h, e))
divisor_positive (suc n) k m h e = omega arith

pub greatest_from_zero : (a b : ℕ) → b ≡ 0 → IsGreatestDivisor a b a
greatest_from_zero a b e = record {
  first = dvd_refl a;
  second = subst (λ x. a ∣ x) (sym e) (dvd-zero a);
  greatest = λ d k p q. p;
}

-- one step of Euclid's algorithm
pub greatest_from_mod : (a b g : ℕ) → IsGreatestDivisor b (a % b) g → IsGreatestDivisor a b g
greatest_from_mod a b g h = record {
  first = (dvd-mod_iff g h.first).0 h.second;
  second = h.first;
  greatest = λ d k p q. h.greatest d k q (rest d k p q);
}
  where
    shared : (q b m k : ℕ) → (q * b + m) * k ≡ q * (b * k) + m * k
    shared q b m k = omega arith

    parted : (k : ℕ) → a * k ≡ a / b * (b * k) + a % b * k
    parted k = ap (λ x. x * k) (sym (div-add-mod' a b)) ∙ shared (a / b) b (a % b) k

    rest : (d k : ℕ) → d ∣ (a * k) → d ∣ (b * k) → d ∣ (a % b * k)
    rest d k p q = (dvd-add_iff_right d (dvd-mul_left_of_dvd d q (a / b))).1 (subst (λ x. d ∣ x) (parted k) p)

-- a greatest common divisor by its multiples exists, by Euclid's algorithm
pub record Greatest (a b : ℕ) : Type 0 where
  pub divisor : ℕ
  pub is : IsGreatestDivisor a b divisor

greatest_upto : (n a b : ℕ) → b ≤ n → Greatest a b
greatest_upto zero a b h = record { divisor = a; is = greatest_from_zero a b (omega (arith, h)) }
greatest_upto (suc n) a zero h = record { divisor = a; is = greatest_from_zero a zero refl }
greatest_upto (suc n) a (suc b) h = let rest = greatest_upto n (suc b) (a % suc b) (omega (arith, mod_below a (suc b) (omega arith), h)) in record { divisor = rest.divisor; is = greatest_from_mod a (suc b) rest.divisor rest.is }

pub greatest_of : (a b : ℕ) → Greatest a b
greatest_of a b = greatest_upto b a b (omega arith)

-- it is positive where one of the two is
pub greatest_positive : (a b g : ℕ) → 0 < b → IsGreatestDivisor a b g → 0 < g
greatest_positive a b g h is = divisor_positive g (b / g) b h (quotient_times g b is.second)

-- the product of one number and the other's cofactor is the least common multiple
pub least_multiple_is : (a b g : ℕ) → 0 < a → 0 < b → IsGreatestDivisor a b g → IsLeastMultiple a b (a / g * b)
least_multiple_is a b g ha hb is = record {
  positive = both_positive (a / g) b (factor_positive g (a / g) a ha whole_a) hb;
  first = multiple a (b / g) (a / g * b) (ap (λ x. a / g * x) whole_b ∙ turned (a / g) g (b / g) ∙ ap (λ x. x * (b / g)) (sym whole_a));
  second = dvd-mul_left b (a / g);
  least = λ k p q. dvd_of_mul-dvd-mul_left (a / g * b) g_positive (subst (λ x. x ∣ (g * k)) (product k) (is.greatest (a * b) k (mul-dvd-mul_left b a q) (subst (λ x. (a * b) ∣ x) (swapped k b) (mul-dvd-mul_right a p b))));
}
  where
    whole_a : a ≡ g * (a / g)
    whole_a = quotient_times g a is.first

    whole_b : b ≡ g * (b / g)
    whole_b = quotient_times g b is.second

    g_positive : 0 < g
    g_positive = greatest_positive a b g hb is

    both_positive : (m n : ℕ) → 0 < m → 0 < n → 0 < m * n
    both_positive m n h k = grind arith

    turned : (m n k : ℕ) → m * (n * k) ≡ n * m * k
    turned m n k = omega arith

    swapped : (m n : ℕ) → m * n ≡ n * m
    swapped m n = omega arith

    grouped : (g m b : ℕ) → g * m * b ≡ g * (m * b)
    grouped g m b = omega arith

    product : (k : ℕ) → a * b ≡ g * (a / g * b)
    product k = ap (λ x. x * b) whole_a ∙ grouped g (a / g) b
