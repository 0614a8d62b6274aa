-- The sum of the magnitudes of coefficients, as coefficients are added.
use Rattle.std.proofs.lemmas.List.{drop_more}
use Rattle.std.proofs.Common.{◌≡◌, ℕ, zero, suc, ◌+◌, ◌*◌, ◌^◌, ◌≤◌, ◌<◌, List, [], ◌∷◌, length, drop, get_or, ap, arith, refl, cond, nat_eq, nat_lt, unsigned_abs}
use Rattle.std.proofs.Math.IntN.{ℤ, pos, ◌+ℤ◌}
use Rattle.std.specs.Ordering.{int_eq}
use Rattle.std.proofs.lemmas.Bool.{cond_both}
use Rattle.std.proofs.lemmas.Int.{ints}
use Rattle.lash_model.specs.Formulas.{coefficient_sum}
use Rattle.formula_core.specs.Terms.{coefficient_at, in_front, added}

pub sum_abs : (a b : ℤ) → unsigned_abs (a +ℤ b) ≤ unsigned_abs a + unsigned_abs b
sum_abs a b = grind (arith, ints)

-- a coefficient is within the sum
pub coefficient_within : (ts : List (ℕ × ℤ)) (place : ℕ) → unsigned_abs (coefficient_at ts place) ≤ coefficient_sum ts
unfolding coefficient_at coefficient_sum
coefficient_within [] place = omega arith
coefficient_within (t ∷ ts) place = cond_both (nat_eq t.0 place) t.1 (coefficient_at ts place) (λ c. unsigned_abs c ≤ unsigned_abs t.1 + coefficient_sum ts) (λ _. omega arith) (λ _. let rec = coefficient_within ts place in omega (arith, rec))

front_within : (place : ℕ) (c : ℤ) (ts : List (ℕ × ℤ)) → coefficient_sum (in_front place c ts) ≤ coefficient_sum ts + unsigned_abs c
unfolding coefficient_sum
front_within place c ts = cond_both (int_eq c (pos 0)) ts ((place, c) ∷ ts) (λ us. coefficient_sum us ≤ coefficient_sum ts + unsigned_abs c) (λ _. omega arith) (λ _. omega arith)

-- the sum grows by no more than the magnitude of what is added
pub added_within : (ts : List (ℕ × ℤ)) (place : ℕ) (c : ℤ) → coefficient_sum (added ts place c) ≤ coefficient_sum ts + unsigned_abs c
unfolding added coefficient_sum
added_within [] place c = front_within place c []
added_within (t ∷ ts) place c = cond_both (nat_lt t.0 place) (t ∷ added ts place c) (cond (nat_lt place t.0) (in_front place c (t ∷ ts)) (in_front place (t.1 +ℤ c) ts)) (λ us. coefficient_sum us ≤ coefficient_sum (t ∷ ts) + unsigned_abs c)
    (λ _. let rec = added_within ts place c in omega (arith, rec))
    (λ _. cond_both (nat_lt place t.0) (in_front place c (t ∷ ts)) (in_front place (t.1 +ℤ c) ts) (λ us. coefficient_sum us ≤ coefficient_sum (t ∷ ts) + unsigned_abs c)
    (λ _. front_within place c (t ∷ ts))
    (λ _. omega (arith, front_within place (t.1 +ℤ c) ts, sum_abs t.1 c)))

-- a coefficient that is added to few others is far below the limit of a term
pub far_below : (ts : List (ℕ × ℤ)) (place : ℕ) (c : ℤ) → coefficient_sum ts ≤ 2 * 65536 * 2 ^ 64 → unsigned_abs c ≤ 2 ^ 64 → unsigned_abs (coefficient_at ts place +ℤ c) ≤ 2 ^ 113
far_below ts place c h k = omega (arith, sum_abs (coefficient_at ts place) c, coefficient_within ts place, h, k)

pub none_is_zero : coefficient_sum [] ≡ 0
unfolding coefficient_sum
none_is_zero = refl

-- the sum from a place on is the magnitude there and the sum behind it
pub sum_from : (ts : List (ℕ × ℤ)) (i : ℕ) (d : ℕ × ℤ) (m : ℕ) → i < length ts → m ≡ unsigned_abs (get_or ts i d).1 → coefficient_sum (drop i ts) ≡ m + coefficient_sum (drop (i + 1) ts)
unfolding coefficient_sum
sum_from ts i d m lt is = rw is (ap coefficient_sum (drop_more ts i d lt))

pub sum_behind : (ts : List (ℕ × ℤ)) (i : ℕ) → length ts ≤ i → coefficient_sum (drop i ts) ≡ 0
unfolding coefficient_sum
sum_behind [] zero h = refl
sum_behind [] (suc i) h = refl
sum_behind (t ∷ ts) zero h = absurd (omega arith)
sum_behind (t ∷ ts) (suc i) h = sum_behind ts i (omega (arith, h))
