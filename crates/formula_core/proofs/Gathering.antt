-- Sets of places that grow by one place, and how many places they have.
use Rattle.std.proofs.Common.{◌≡◌, ℕ, zero, suc, ◌+◌, ◌<◌, ◌≤◌, ◌^◌, List, [], ◌∷◌, ◌++◌, length, length-append, arith, refl, sym, ap, ◌∙◌, subst, Bool, true, false, ◌||◌, ◌&&◌, nat_eq, nat_lt, nat_le, Option, None, Some, MatchOption}
use Rattle.std.proofs.Math.Nat.{pow-le-pow_left, pow-le-pow_right}
use Rattle.std.specs.List.{IsDistinct, AllByRecursion, filter, range_with_len, list_any}
use Rattle.std.specs.Set.{is_member}
use Rattle.std.specs.Cmp.{nat_eq_equiv}
use Rattle.std.proofs.lemmas.Bool.{lt-ltb, le-ltb, ltb-true, leb-true, eqb-true, ne_eqb, cond_both, and_parts, and_from, false≢true}
use Rattle.std.proofs.lemmas.Bool.Decides.{nat_tests}
use Rattle.std.proofs.lemmas.List.Folds.{list_any-append}
use Rattle.std.proofs.lemmas.Map.Keys.{IsDistinct-push, IsDistinct-cons}
use Rattle.std.proofs.lemmas.Map.Made.{length-from_same_keys, length-le_from_is_member}
use Rattle.std.proofs.lemmas.Map.Views.{any-filter_same}
use Rattle.formula_core.specs.PlaceSets.{passing, IsSetOf, Gathers}

-- a number is among those from a on exactly where it is in their range
member_range : (q a n : ℕ) → is_member nat_eq (range_with_len a n) q ≡ (nat_le a q && nat_lt q (a + n))
member_range q a zero = none (nat_le a q) refl
  where
    none : (b : Bool) → nat_le a q ≡ b → false ≡ (b && nat_lt q (a + zero))
    none true e = sym (le-ltb q (a + zero) (omega (arith, leb-true a q e)))
    none false e = refl
member_range q a (suc n) = ap (λ b. nat_eq q a || b) (member_range q (a + 1) n) ∙ more
  where
    more : (nat_eq q a || (nat_le (a + 1) q && nat_lt q ((a + 1) + n))) ≡ (nat_le a q && nat_lt q (a + suc n))
    more = grind (arith, nat_tests)

turned : (b c : Bool) → (b && c) ≡ (c && b)
turned true true = refl
turned true false = refl
turned false true = refl
turned false false = refl

-- a number passes below the bound exactly where it is listed
pub member_passing : (test : ℕ → Bool) (n q : ℕ) → is_member nat_eq (passing test n) q ≡ (nat_lt q n && test q)
member_passing test n q = any-filter_same (nat_eq q) test (test q) (λ k e. ap test (sym (eqb-true q k e))) (range_with_len 0 n) ∙ ap (λ b. test q && b) (member_range q 0 n) ∙ turned (test q) (nat_le 0 q && nat_lt q (0 + n)) ∙ ap (λ b. b && test q) below
  where
    below : (nat_le 0 q && nat_lt q (0 + n)) ≡ nat_lt q n
    below = grind (arith, nat_tests)

later : (test : ℕ → Bool) (a b n : ℕ) → a < b → AllByRecursion (λ y. nat_eq a y ≡ false) (filter test (range_with_len b n))
later test a b zero h = tt
later test a b (suc n) h = cond_both (test b) (b ∷ filter test (range_with_len (b + 1) n)) (filter test (range_with_len (b + 1) n)) (AllByRecursion (λ y. nat_eq a y ≡ false)) (λ _. (ne_eqb a b (λ e. omega arith), later test a (b + 1) n (omega arith))) (λ _. later test a (b + 1) n (omega arith))

distinct_from : (test : ℕ → Bool) (a n : ℕ) → IsDistinct nat_eq (filter test (range_with_len a n))
unfolding IsDistinct
distinct_from test a zero = tt
distinct_from test a (suc n) = cond_both (test a) (a ∷ filter test (range_with_len (a + 1) n)) (filter test (range_with_len (a + 1) n)) (IsDistinct nat_eq) (λ _. IsDistinct-cons nat_eq a (filter test (range_with_len (a + 1) n)) (later test a (a + 1) n (omega arith)) (distinct_from test (a + 1) n)) (λ _. distinct_from test (a + 1) n)

-- a set has as many places as pass
pub size : (test : ℕ → Bool) (n : ℕ) (xs : List ℕ) → IsSetOf test n xs → length xs ≡ length (passing test n)
size test n xs h = length-from_same_keys nat_eq_equiv xs (passing test n) h.distinct (distinct_from test 0 n) (λ q. h.each q ∙ sym (member_passing test n q))

-- where a test passes all that another passes, no fewer pass it
pub more_pass : (test other : ℕ → Bool) (n : ℕ) → ((k : ℕ) → k < n → test k ≡ true → other k ≡ true) → length (passing test n) ≤ length (passing other n)
more_pass test other n h = length-le_from_is_member nat_eq_equiv (passing test n) (passing other n) (distinct_from test 0 n) (λ q m. passes q (and_parts (nat_lt q n) (test q) (sym (member_passing test n q) ∙ m)))
  where
    passes : (q : ℕ) → (nat_lt q n ≡ true) × (test q ≡ true) → is_member nat_eq (passing other n) q ≡ true
    passes q both = member_passing other n q ∙ and_from (nat_lt q n) (other q) both.0 (h q (ltb-true q n both.0) both.1)

-- what a set says of a place below the bound
pub member_below : (test : ℕ → Bool) (n k : ℕ) (xs : List ℕ) → IsSetOf test n xs → k < n → is_member nat_eq xs k ≡ test k
member_below test n k xs h lt = h.each k ∙ ap (λ b. b && test k) (lt-ltb k n lt)

-- tests that agree below the bound have the same sets
pub gathers_same : (test other : ℕ → Bool) (n : ℕ) (r : Option (List ℕ)) → ((k : ℕ) → k < n → test k ≡ other k) → Gathers test n r → Gathers other n r
gathers_same test other n None same g = omega (arith, g, more_pass test other n (λ k lt e. sym (same k lt) ∙ e))
gathers_same test other n (Some xs) same g = record { distinct = g.distinct; each = λ k. g.each k ∙ by k (nat_lt k n) refl }
  where
    by : (k : ℕ) (b : Bool) → nat_lt k n ≡ b → (b && test k) ≡ (b && other k)
    by k true e = same k (ltb-true k n e)
    by k false e = refl

-- where more passes, too many pass
pub still_too_many : (test other : ℕ → Bool) (n : ℕ) → ((k : ℕ) → test k ≡ true → other k ≡ true) → Gathers test n None → Gathers other n None
still_too_many test other n h g = omega (arith, g, more_pass test other n (λ k lt. h k))

-- the empty set
pub no_places : (n : ℕ) → IsSetOf (λ k. false) n []
unfolding IsDistinct
no_places n = record { distinct = tt; each = λ k. sym (turned (nat_lt k n) false) }

-- a place that is not in the set
added : (test : ℕ → Bool) (n place : ℕ) (xs : List ℕ) → IsSetOf test n xs → place < n → is_member nat_eq xs place ≡ false → IsSetOf (λ k. test k || nat_eq k place) n (xs ++ place ∷ [])
added test n place xs h lt fresh = record {
  distinct = IsDistinct-push nat_eq_equiv xs place h.distinct fresh;
  each = λ k. list_any-append (nat_eq k) xs (place ∷ []) ∙ ap (λ b. b || (nat_eq k place || false)) (h.each k) ∙ joins (nat_lt k n) (test k) (nat_eq k place) (λ e. lt-ltb k n (omega (arith, eqb-true k place e)));
}
  where
    joins : (b t e : Bool) → (e ≡ true → b ≡ true) → ((b && t) || (e || false)) ≡ (b && (t || e))
    joins true true e h = refl
    joins true false true h = refl
    joins true false false h = refl
    joins false t true h = absurd (false≢true (h refl))
    joins false t false h = refl

-- it is put behind the others, where there is room
pub with_fresh : (test : ℕ → Bool) (n place : ℕ) (xs : List ℕ) (r : Option (List ℕ)) → IsSetOf test n xs → place < n → is_member nat_eq xs place ≡ false → MatchOption r (length xs ≡ 12) (λ ys. ys ≡ xs ++ place ∷ []) → Gathers (λ k. test k || nat_eq k place) n r
with_fresh test n place xs None h lt fresh full = omega (arith, full, size (λ k. test k || nat_eq k place) n (xs ++ place ∷ []) (added test n place xs h lt fresh), length-append xs (place ∷ []))
with_fresh test n place xs (Some ys) h lt fresh e = subst (IsSetOf (λ k. test k || nat_eq k place) n) (sym e) (added test n place xs h lt fresh)

-- the test that looks the other way round
pub member_turned : (q : ℕ) (xs : List ℕ) → list_any (λ y. nat_eq y q) xs ≡ is_member nat_eq xs q
member_turned q [] = refl
member_turned q (x ∷ xs) = ap (λ b. b || list_any (λ y. nat_eq y q) xs) (nat_eq_equiv.symm x q) ∙ ap (λ b. nat_eq q x || b) (member_turned q xs)

-- more than 12 tracks have more than 4,096 letters
pub too_many_letters : (base k : ℕ) → 2 ≤ base → 12 < k → base ^ k ≤ 4096 → ⊥
too_many_letters base k two many few =
    let up : 2 ^ 13 ≤ base ^ 13 = pow-le-pow_left two 13 in
    let on : base ^ 13 ≤ base ^ k = pow-le-pow_right (omega arith) (omega arith) in
    omega (arith, few, up, on)
