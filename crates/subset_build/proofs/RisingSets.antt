-- Rising lists as sets: two with the same members are equal, a filter of a range is one, and so is a sorted list without repetitions.
use Rattle.std.proofs.Common.{◌≡◌, ℕ, zero, suc, ◌+◌, ◌<◌, Bool, true, false, eqb, List, [], ◌∷◌, ◌++◌, length, arith, zero-add, refl, ◌∙◌, sym, ap, subst, inl, inr}
use Rattle.std.specs.Prelude.{◌⊎◌, All, Contains, filter}
use Rattle.std.specs.List.{slice_index_or, AllPairs, range_with_len, dedup}
use Rattle.std.specs.List.Sorted.{IsPermutation, IsSorted}
use Rattle.std.specs.Ordering.{nat_cmp}
use Rattle.std.proofs.lemmas.Bool.{false≢true, cond-true, cond-false}
use Rattle.std.proofs.lemmas.List.{append-nil, map-id}
use Rattle.std.proofs.lemmas.List.Elements.{All-contains, All-contains_itself, All-weaker, All-filter, filter_passes, filter-append}
use Rattle.std.proofs.lemmas.List.FromFn.{map-range_with_len_more, length-range_with_len, get_or-range_with_len}
use Rattle.std.proofs.lemmas.List.Kept.{AllPairs-filter, AllPairs-from_increasing, Contains-dedup_nat, Contains-from_dedup}
use Rattle.std.proofs.lemmas.List.Sorted.{IsPermutation-sym, Contains-permutation}
use Rattle.std.proofs.lemmas.Map.Keys.{IsStrictlyIncreasing-dedup}
use Rattle.subset_build.specs.Projection.{IsRisingSet}

-- ---- membership and order by recursion
pub Has : List ℕ → ℕ → Type 0
Has [] x = ⊥
Has (a ∷ xs) x = (x ≡ a) ⊎ Has xs x

Rising : List ℕ → Type 0
unfolding Has
Rising [] = Unit {0}
Rising (a ∷ xs) = ((x : ℕ) → Has xs x → a < x) × Rising xs

has_at : (xs : List ℕ) (x k : ℕ) → k < length xs → slice_index_or xs k x ≡ x → Has xs x
unfolding Has
has_at [] x k h e = absurd (omega arith)
has_at (a ∷ xs) x zero h e = inl (sym e)
has_at (a ∷ xs) x (suc k) h e = inr (has_at xs x k (omega (arith, h)) e)

pub has_from_contains : (xs : List ℕ) (x : ℕ) → Contains xs x → Has xs x
has_from_contains xs x c = has_at xs x c.0 c.1 c.2

pub contains_from_has : (xs : List ℕ) (x : ℕ) → Has xs x → Contains xs x
unfolding Has
contains_from_has [] x h = absurd h
contains_from_has (a ∷ xs) x (inl e) = (0, omega arith, sym e)
contains_from_has (a ∷ xs) x (inr h) = let c = contains_from_has xs x h in (suc c.0, omega (arith, c.1), c.2)

pairs_tail : (a : ℕ) (xs : List ℕ) → AllPairs (λ x y. x < y) (a ∷ xs) → AllPairs (λ x y. x < y) xs
pairs_tail a xs h i j d lt inside = h (suc i) (suc j) d (omega (arith, lt)) (omega (arith, inside))

rising_from_pairs : (xs : List ℕ) → AllPairs (λ x y. x < y) xs → Rising xs
unfolding Rising Has
rising_from_pairs [] h = tt
rising_from_pairs (a ∷ xs) h = ((λ x m. first x (contains_from_has xs x m)), rising_from_pairs xs (pairs_tail a xs h))
  where
    first : (x : ℕ) → Contains xs x → a < x
    first x c = subst (λ y. a < y) c.2 (h 0 (suc c.0) x (omega arith) (omega (arith, c.1)))

one_list : (xs ys : List ℕ) → Rising xs → Rising ys → ((x : ℕ) → Has xs x → Has ys x) → ((x : ℕ) → Has ys x → Has xs x) → xs ≡ ys
unfolding Has Rising
one_list [] [] r s f g = refl
one_list [] (b ∷ ys) r s f g = absurd (g b (inl refl))
one_list (a ∷ xs) [] r s f g = absurd (f a (inl refl))
one_list (a ∷ xs) (b ∷ ys) r s f g = heads (f a (inl refl)) (g b (inl refl)) (λ e. one_list xs ys r.1 s.1 (λ x h. left e x h) (λ x h. right e x h))
  where
    left : a ≡ b → (x : ℕ) → Has xs x → Has ys x
    left e x h = elim (f x (inr h)) [ inl i ↦ absurd (omega (arith, r.0 x h, e, i)) | inr k ↦ k ]

    right : a ≡ b → (x : ℕ) → Has ys x → Has xs x
    right e x h = elim (g x (inr h)) [ inl i ↦ absurd (omega (arith, s.0 x h, e, i)) | inr k ↦ k ]

    heads : (a ≡ b) ⊎ Has ys a → (b ≡ a) ⊎ Has xs b → (a ≡ b → xs ≡ ys) → (a ∷ xs) ≡ (b ∷ ys)
    heads (inl e) k rest = ap (λ c. c ∷ xs) e ∙ ap (λ zs. b ∷ zs) (rest e)
    heads (inr h) (inl e) rest = ap (λ c. c ∷ xs) (sym e) ∙ ap (λ zs. b ∷ zs) (rest (sym e))
    heads (inr h) (inr k) rest = absurd (omega (arith, s.0 a h, r.0 b k))

-- ---- one list for a set
pub one_set : (P : ℕ → Type 0) (xs ys : List ℕ) → IsRisingSet P xs → IsRisingSet P ys → xs ≡ ys
one_set P xs ys h k = one_list xs ys (rising_from_pairs xs h.rising) (rising_from_pairs ys k.rising)
    (λ x m. has_from_contains ys x (k.complete x (All-contains P xs x h.sound (contains_from_has xs x m))))
    (λ x m. has_from_contains xs x (h.complete x (All-contains P ys x k.sound (contains_from_has ys x m))))

pub same_set : (P Q : ℕ → Type 0) (xs : List ℕ) → ((q : ℕ) → P q → Q q) → ((q : ℕ) → Q q → P q) → IsRisingSet P xs → IsRisingSet Q xs
same_set P Q xs f g h = record { rising = h.rising; sound = All-weaker P Q f xs h.sound; complete = λ q m. h.complete q (g q m) }

-- ---- filters of ranges
range_pairs : (a n : ℕ) → AllPairs (λ x y. x < y) (range_with_len a n)
range_pairs a n i j d lt inside =
    let below : j < n = subst (λ k. j < k) (length-range_with_len a n) inside in
    subst (λ x. x < slice_index_or (range_with_len a n) j d) (sym (get_or-range_with_len a n i d (omega (arith, lt, below)))) (subst (λ y. a + i < y) (sym (get_or-range_with_len a n j d below)) (omega (arith, lt)))

range_below : (n : ℕ) → All (λ x. x < n) (range_with_len 0 n)
range_below n k d inside =
    let below : k < n = subst (λ m. k < m) (length-range_with_len 0 n) inside in
    subst (λ x. x < n) (sym (get_or-range_with_len 0 n k d below)) (omega (arith, below))

pub range_contains : (n q : ℕ) → q < n → Contains (range_with_len 0 n) q
range_contains n q lt = (q, subst (λ k. q < k) (sym (length-range_with_len 0 n)) lt, get_or-range_with_len 0 n q q lt ∙ omega arith)

has_filter : (p : ℕ → Bool) (xs : List ℕ) (x : ℕ) → Has xs x → p x ≡ true → Has (filter p xs) x
unfolding Has
has_filter p [] x h t = absurd h
has_filter p (a ∷ xs) x h t = by (p a) refl h (λ m. has_filter p xs x m t)
  where
    by : (b : Bool) → p a ≡ b → (x ≡ a) ⊎ Has xs x → (Has xs x → Has (filter p xs) x) → Has (filter p (a ∷ xs)) x
    by true e (inl i) rec = rw e (inl i)
    by true e (inr m) rec = rw e (inr (rec m))
    by false e (inl i) rec = absurd (false≢true (sym e ∙ ap p (sym i) ∙ t))
    by false e (inr m) rec = rw e (rec m)

pub filter_range : (p : ℕ → Bool) (n : ℕ) → IsRisingSet (λ q. (q < n) × (p q ≡ true)) (filter p (range_with_len 0 n))
filter_range p n = record {
  rising = AllPairs-filter (λ x y. x < y) p (range_with_len 0 n) (range_pairs 0 n);
  sound = λ k d inside. (All-filter p (λ x. x < n) (range_with_len 0 n) (range_below n) k d inside, filter_passes p (range_with_len 0 n) k d inside);
  complete = λ q h. contains_from_has (filter p (range_with_len 0 n)) q (has_filter p (range_with_len 0 n) q (has_from_contains (range_with_len 0 n) q (range_contains n q h.0)) h.1);
}

range_more : (a n : ℕ) → range_with_len a (n + 1) ≡ range_with_len a n ++ (a + n) ∷ []
range_more a n = sym (map-id (range_with_len a (n + 1))) ∙ map-range_with_len_more (λ (x : ℕ). x) a n (a + n) refl ∙ ap (λ xs. xs ++ (a + n) ∷ []) (map-id (range_with_len a n))

-- one number more
pub filter_yes : (p : ℕ → Bool) (n : ℕ) → p n ≡ true → filter p (range_with_len 0 (n + 1)) ≡ filter p (range_with_len 0 n) ++ n ∷ []
filter_yes p n e = ap (filter p) (range_more 0 n ∙ ap (λ k. range_with_len 0 n ++ k ∷ []) (zero-add n)) ∙ filter-append p (range_with_len 0 n) (n ∷ []) ∙ ap (λ xs. filter p (range_with_len 0 n) ++ xs) (cond-true (p n) (n ∷ []) [] e)

pub filter_no : (p : ℕ → Bool) (n : ℕ) → p n ≡ false → filter p (range_with_len 0 (n + 1)) ≡ filter p (range_with_len 0 n)
filter_no p n e = ap (filter p) (range_more 0 n ∙ ap (λ k. range_with_len 0 n ++ k ∷ []) (zero-add n)) ∙ filter-append p (range_with_len 0 n) (n ∷ []) ∙ ap (λ xs. filter p (range_with_len 0 n) ++ xs) (cond-false (p n) (n ∷ []) [] e) ∙ append-nil (filter p (range_with_len 0 n))

-- ---- sorted, and without repetitions
pub sorted_set : (xs ys : List ℕ) → IsPermutation xs ys → IsSorted nat_cmp ys → IsRisingSet (Contains xs) (dedup eqb ys)
sorted_set xs ys p s = record {
  rising = AllPairs-from_increasing (dedup eqb ys) (IsStrictlyIncreasing-dedup ys s);
  sound = All-weaker (Contains (dedup eqb ys)) (Contains xs) (λ x c. Contains-permutation ys xs x (IsPermutation-sym xs ys p) (Contains-from_dedup eqb ys x c)) (dedup eqb ys) (All-contains_itself (dedup eqb ys));
  complete = λ x c. Contains-dedup_nat ys x (Contains-permutation xs ys x p c);
}
