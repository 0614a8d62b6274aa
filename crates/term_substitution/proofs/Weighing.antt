-- The weight of coefficients at one place, as coefficients are added.
use Rattle.std.proofs.Common.{◌≡◌, ℕ, suc, ◌+◌, ◌*◌, ◌≤◌, ◌<◌, List, [], ◌∷◌, arith, refl, sym, ap, ◌∙◌, cond, Bool, true, false, nat_eq, nat_lt, unsigned_abs}
use Rattle.std.proofs.Math.IntN.{ℤ, pos, ◌+ℤ◌, ◌*ℤ◌}
use Rattle.std.specs.List.{AllPairs, All}
use Rattle.std.specs.Ordering.{int_eq}
use Rattle.std.proofs.lemmas.Bool.{cond_both, eq-eqb, eqb-true, ne_eqb, ltb-false}
use Rattle.std.proofs.lemmas.Int.{ints, unsigned_abs-mul}
use Rattle.formula_core.specs.Terms.{coefficient_at, in_front, added}
use Rattle.term_substitution.specs.Weights.{where_it_is, weight_at}

pub sum_abs : (a b : ℤ) → unsigned_abs (a +ℤ b) ≤ unsigned_abs a + unsigned_abs b
sum_abs a b = grind (arith, ints)

-- a coefficient is within the weight at its place
pub coefficient_within : (ts : List (ℕ × ℤ)) (place : ℕ) → unsigned_abs (coefficient_at ts place) ≤ weight_at ts place
unfolding coefficient_at weight_at
coefficient_within [] place = omega arith
coefficient_within (t ∷ ts) place = let rec = coefficient_within ts place in by_cases (nat_eq t.0 place) rec
  where
    by_cases : (b : Bool) → unsigned_abs (coefficient_at ts place) ≤ weight_at ts place → unsigned_abs (cond b t.1 (coefficient_at ts place)) ≤ where_it_is b (unsigned_abs t.1) + weight_at ts place
    by_cases true rec = omega arith
    by_cases false rec = omega (arith, rec)

where_sum : (b : Bool) (m n k : ℕ) → k ≤ m + n → where_it_is b k ≤ where_it_is b m + where_it_is b n
where_sum true m n k h = h
where_sum false m n k h = omega arith

front_weight : (at : ℕ) (c : ℤ) (ts : List (ℕ × ℤ)) (place : ℕ) → weight_at (in_front at c ts) place ≤ weight_at ts place + where_it_is (nat_eq at place) (unsigned_abs c)
unfolding weight_at
front_weight at c ts place = cond_both (int_eq c (pos 0)) ts ((at, c) ∷ ts) (λ us. weight_at us place ≤ weight_at ts place + where_it_is (nat_eq at place) (unsigned_abs c)) (λ _. omega arith) (λ _. omega arith)

-- the weight at a place grows by no more than the magnitude of what is added there
pub added_weight : (ts : List (ℕ × ℤ)) (at : ℕ) (c : ℤ) (place : ℕ) → weight_at (added ts at c) place ≤ weight_at ts place + where_it_is (nat_eq at place) (unsigned_abs c)
unfolding added weight_at
added_weight [] at c place = front_weight at c [] place
added_weight (t ∷ ts) at c place = cond_both (nat_lt t.0 at) (t ∷ added ts at c) (cond (nat_lt at t.0) (in_front at c (t ∷ ts)) (in_front at (t.1 +ℤ c) ts)) (λ us. weight_at us place ≤ weight_at (t ∷ ts) place + where_it_is (nat_eq at place) (unsigned_abs c))
    (λ _. let rec = added_weight ts at c place in omega (arith, rec))
    (λ e. cond_both (nat_lt at t.0) (in_front at c (t ∷ ts)) (in_front at (t.1 +ℤ c) ts) (λ us. weight_at us place ≤ weight_at (t ∷ ts) place + where_it_is (nat_eq at place) (unsigned_abs c))
    (λ _. front_weight at c (t ∷ ts) place)
    (λ f. same (omega (arith, ltb-false at t.0 f, ltb-false t.0 at e))))
  where
    same : t.0 ≡ at → weight_at (in_front at (t.1 +ℤ c) ts) place ≤ weight_at (t ∷ ts) place + where_it_is (nat_eq at place) (unsigned_abs c)
    same q = omega (arith, front_weight at (t.1 +ℤ c) ts place, where_sum (nat_eq at place) _ _ _ (sum_abs t.1 c), ap (λ k. where_it_is (nat_eq k place) (unsigned_abs t.1)) q)

pub where_less : (b : Bool) (n : ℕ) → where_it_is b n ≤ n
where_less true n = omega arith
where_less false n = omega arith

where_times : (b : Bool) (m n : ℕ) → where_it_is b (m * n) ≡ m * where_it_is b n
where_times true m n = refl
where_times false m n = omega arith

times_sum : (m x y : ℕ) → m * (x + y) ≡ m * x + m * y
times_sum m x y = omega arith

-- with a product added, and the rest of a term still to come, there is no more weight than before
pub product_weight : (into : List (ℕ × ℤ)) (a : ℤ) (t : ℕ × ℤ) (ts : List (ℕ × ℤ)) (place : ℕ) → weight_at (added into t.0 (a *ℤ t.1)) place + unsigned_abs a * weight_at ts place ≤ weight_at into place + unsigned_abs a * weight_at (t ∷ ts) place
unfolding weight_at
product_weight into a t ts place =
    let mul : where_it_is (nat_eq t.0 place) (unsigned_abs (a *ℤ t.1)) ≡ unsigned_abs a * where_it_is (nat_eq t.0 place) (unsigned_abs t.1) = ap (where_it_is (nat_eq t.0 place)) (unsigned_abs-mul a t.1) ∙ where_times (nat_eq t.0 place) (unsigned_abs a) (unsigned_abs t.1) in
    omega (arith, added_weight into t.0 (a *ℤ t.1) place, mul, times_sum (unsigned_abs a) (where_it_is (nat_eq t.0 place) (unsigned_abs t.1)) (weight_at ts place))

-- the sum of a coefficient and a product is within the weight
pub product_within : (into : List (ℕ × ℤ)) (a : ℤ) (t : ℕ × ℤ) (ts : List (ℕ × ℤ)) → unsigned_abs (coefficient_at into t.0 +ℤ (a *ℤ t.1)) ≤ weight_at into t.0 + unsigned_abs a * weight_at (t ∷ ts) t.0
unfolding weight_at
product_within into a t ts =
    let here : where_it_is (nat_eq t.0 t.0) (unsigned_abs t.1) ≡ unsigned_abs t.1 = ap (λ b. where_it_is b (unsigned_abs t.1)) (eq-eqb t.0 t.0 refl) in
    let mul : unsigned_abs (a *ℤ t.1) ≡ unsigned_abs a * where_it_is (nat_eq t.0 t.0) (unsigned_abs t.1) = unsigned_abs-mul a t.1 ∙ ap (λ k. unsigned_abs a * k) (sym here) in
    omega (arith, sum_abs (coefficient_at into t.0) (a *ℤ t.1), coefficient_within into t.0, mul, times_sum (unsigned_abs a) (where_it_is (nat_eq t.0 t.0) (unsigned_abs t.1)) (weight_at ts t.0))

-- nothing stands at a place that all places pass
none_there : (ts : List (ℕ × ℤ)) (place : ℕ) → All (λ t. place < t.0) ts → weight_at ts place ≡ 0
unfolding weight_at
none_there [] place h = refl
none_there (t ∷ ts) place h =
    let rec = none_there ts place (λ k d lt. h (suc k) d (omega arith)) in
    rw (ne_eqb t.0 place (λ e. omega (arith, h 0 t (omega arith), e))) (omega (arith, rec))

-- where places rise, the weight at a place is that of one coefficient
pub one_weight : (ts : List (ℕ × ℤ)) (place bound : ℕ) → AllPairs (λ s t. s.0 < t.0) ts → All (λ t. unsigned_abs t.1 ≤ bound) ts → weight_at ts place ≤ bound
unfolding weight_at
one_weight [] place bound rising small = omega arith
one_weight (t ∷ ts) place bound rising small =
    let rec = one_weight ts place bound (λ i j d lt below. rising (suc i) (suc j) d (omega arith) (omega arith)) (λ k d lt. small (suc k) d (omega arith)) in
    by_cases (nat_eq t.0 place) refl rec
  where
    by_cases : (b : Bool) → nat_eq t.0 place ≡ b → weight_at ts place ≤ bound → where_it_is b (unsigned_abs t.1) + weight_at ts place ≤ bound
    by_cases true e rec = let none : weight_at ts place ≡ 0 = none_there ts place (λ k d lt. omega (arith, eqb-true t.0 place e, rising 0 (suc k) d (omega arith) (omega arith))) in omega (arith, none, small 0 t (omega arith))
    by_cases false e rec = omega (arith, rec)

pub nothing : (place : ℕ) → weight_at [] place ≡ 0
unfolding weight_at
nothing place = refl
