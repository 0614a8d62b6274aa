-- The total of a linear term over the values of a word is a run over the totals of its letters.
use Rattle.std.proofs.Common.{◌≡◌, ℕ, zero, suc, List, [], ◌∷◌, map, arith, refl, ◌∙◌, ap}
use Rattle.std.proofs.Math.IntN.{ℤ, pos, neg_ℤ, ◌+ℤ◌, ◌*ℤ◌}
use Rattle.std.proofs.lemmas.Int.{ints}
use Rattle.std.specs.List.{slice_index_or}
use Rattle.integer_laws.specs.Differences.{diff}
use Rattle.integer_laws.specs.Runs.{run}
use Rattle.integer_laws.specs.Vectors.{vector, vector_from}
use Rattle.integer_laws.proofs.Ring.{diff_same, diff_add, diff_mul, by_diff, pos_diff}
use Rattle.integer_laws.proofs.Entries.{vector_from_same}
use Rattle.lash_model.specs.Letters.{digit, sign_bit}
use Rattle.lash_model.specs.Words.{value, values, track_digits}
use Rattle.lash_model.specs.Meaning.{total}
use Rattle.lash_model.proofs.WordValues.{value_is_run}
use Rattle.threshold_laws.specs.Thresholds.{letter_total, sign_total}

-- the entries of one vector are those of another times r, plus those of a third; past the end all are 0
entry_combined : (r : ℕ) (f g h : ℕ → ℤ) → ((i : ℕ) → f i ≡ (pos r *ℤ g i) +ℤ h i) → (i n p : ℕ) → slice_index_or (vector_from f i n) p (pos 0) ≡ (pos r *ℤ slice_index_or (vector_from g i n) p (pos 0)) +ℤ slice_index_or (vector_from h i n) p (pos 0)
unfolding vector_from
entry_combined r f g h e i zero p = none r
  where
    none : (r : ℕ) → pos 0 ≡ (pos r *ℤ pos 0) +ℤ pos 0
    none r = simp (pos_diff, diff_add, diff_mul) (diff_same _ _ _ _ (omega arith))
entry_combined r f g h e i (suc n) zero = e i
entry_combined r f g h e i (suc n) (suc p) = entry_combined r f g h e (suc i) n p

ring_combined : (r : ℕ) (a x y s t : ℤ) → (a *ℤ ((pos r *ℤ x) +ℤ y)) +ℤ ((pos r *ℤ s) +ℤ t) ≡ (pos r *ℤ ((a *ℤ x) +ℤ s)) +ℤ ((a *ℤ y) +ℤ t)
ring_combined r a x y s t = by_diff (λ a. (a *ℤ ((pos r *ℤ x) +ℤ y)) +ℤ ((pos r *ℤ s) +ℤ t) ≡ (pos r *ℤ ((a *ℤ x) +ℤ s)) +ℤ ((a *ℤ y) +ℤ t)) (λ p q.
    by_diff (λ x. (diff p q *ℤ ((pos r *ℤ x) +ℤ y)) +ℤ ((pos r *ℤ s) +ℤ t) ≡ (pos r *ℤ ((diff p q *ℤ x) +ℤ s)) +ℤ ((diff p q *ℤ y) +ℤ t)) (λ b c.
    by_diff (λ y. (diff p q *ℤ ((pos r *ℤ diff b c) +ℤ y)) +ℤ ((pos r *ℤ s) +ℤ t) ≡ (pos r *ℤ ((diff p q *ℤ diff b c) +ℤ s)) +ℤ ((diff p q *ℤ y) +ℤ t)) (λ d e.
    by_diff (λ s. (diff p q *ℤ ((pos r *ℤ diff b c) +ℤ diff d e)) +ℤ ((pos r *ℤ s) +ℤ t) ≡ (pos r *ℤ ((diff p q *ℤ diff b c) +ℤ s)) +ℤ ((diff p q *ℤ diff d e) +ℤ t)) (λ f g.
    by_diff (λ t. (diff p q *ℤ ((pos r *ℤ diff b c) +ℤ diff d e)) +ℤ ((pos r *ℤ diff f g) +ℤ t) ≡ (pos r *ℤ ((diff p q *ℤ diff b c) +ℤ diff f g)) +ℤ ((diff p q *ℤ diff d e) +ℤ t)) (λ h k.
    simp (pos_diff, diff_add, diff_mul) (diff_same _ _ _ _ (omega arith))) t) s) y) x) a

-- the total of such a vector
pub total_combined : (r : ℕ) (f g h : ℕ → ℤ) → ((i : ℕ) → f i ≡ (pos r *ℤ g i) +ℤ h i) → (ts : List (ℕ × ℤ)) (n : ℕ) → total ts (vector f n) ≡ (pos r *ℤ total ts (vector g n)) +ℤ total ts (vector h n)
unfolding total
total_combined r f g h e [] n = none r
  where
    none : (r : ℕ) → pos 0 ≡ (pos r *ℤ pos 0) +ℤ pos 0
    none r = simp (pos_diff, diff_add, diff_mul) (diff_same _ _ _ _ (omega arith))
total_combined r f g h e (t ∷ ts) n = ap (λ x. (t.1 *ℤ x) +ℤ total ts (vector f n)) (entry_combined r f g h e 0 n t.0) ∙ ap (λ s. (t.1 *ℤ ((pos r *ℤ slice_index_or (vector g n) t.0 (pos 0)) +ℤ slice_index_or (vector h n) t.0 (pos 0))) +ℤ s) (total_combined r f g h e ts n) ∙ ring_combined r t.1 (slice_index_or (vector g n) t.0 (pos 0)) (slice_index_or (vector h n) t.0 (pos 0)) (total ts (vector g n)) (total ts (vector h n))

entry_negated : (f g : ℕ → ℤ) → ((i : ℕ) → f i ≡ neg_ℤ (g i)) → (i n p : ℕ) → slice_index_or (vector_from f i n) p (pos 0) ≡ neg_ℤ (slice_index_or (vector_from g i n) p (pos 0))
unfolding vector_from
entry_negated f g e i zero p = refl
entry_negated f g e i (suc n) zero = e i
entry_negated f g e i (suc n) (suc p) = entry_negated f g e (suc i) n p

neg_diff : (p q : ℕ) → neg_ℤ (diff p q) ≡ diff q p
unfolding diff
neg_diff p q = omega (arith, ints)

ring_negated : (a x s : ℤ) → (a *ℤ neg_ℤ x) +ℤ neg_ℤ s ≡ neg_ℤ ((a *ℤ x) +ℤ s)
ring_negated a x s = by_diff (λ a. (a *ℤ neg_ℤ x) +ℤ neg_ℤ s ≡ neg_ℤ ((a *ℤ x) +ℤ s)) (λ p q.
    by_diff (λ x. (diff p q *ℤ neg_ℤ x) +ℤ neg_ℤ s ≡ neg_ℤ ((diff p q *ℤ x) +ℤ s)) (λ u v.
    by_diff (λ s. (diff p q *ℤ neg_ℤ (diff u v)) +ℤ neg_ℤ s ≡ neg_ℤ ((diff p q *ℤ diff u v) +ℤ s)) (λ k l.
    simp (neg_diff, diff_add, diff_mul) (diff_same _ _ _ _ (omega arith))) s) x) a

-- minus a vector has minus the total
total_negated : (f g : ℕ → ℤ) → ((i : ℕ) → f i ≡ neg_ℤ (g i)) → (ts : List (ℕ × ℤ)) (n : ℕ) → total ts (vector f n) ≡ neg_ℤ (total ts (vector g n))
unfolding total
total_negated f g e [] n = refl
total_negated f g e (t ∷ ts) n = ap (λ x. (t.1 *ℤ x) +ℤ total ts (vector f n)) (entry_negated f g e 0 n t.0) ∙ ap (λ s. (t.1 *ℤ neg_ℤ (slice_index_or (vector g n) t.0 (pos 0))) +ℤ s) (total_negated f g e ts n) ∙ ring_negated t.1 (slice_index_or (vector g n) t.0 (pos 0)) (total ts (vector g n))

-- the total of the vector that is reached by reading a word on each track is reached by reading the letters' totals
total_of_runs : (ts : List (ℕ × ℤ)) (r n : ℕ) (start : ℕ → ℤ) (w : List ℕ) → total ts (vector (λ i. run r (start i) (track_digits r n i w)) n) ≡ run r (total ts (vector start n)) (map (letter_total ts r n) w)
unfolding run track_digits letter_total
total_of_runs ts r n start [] = refl
total_of_runs ts r n start (l ∷ w) = total_of_runs ts r n (λ i. (pos r *ℤ start i) +ℤ pos (digit r n i l)) w ∙ ap (λ x. run r x (map (letter_total ts r n) w)) (total_combined r (λ i. (pos r *ℤ start i) +ℤ pos (digit r n i l)) start (λ i. pos (digit r n i l)) (λ i. refl) ts n)

minus_bit : (b : ℕ) → diff 0 b ≡ neg_ℤ (pos b)
unfolding diff
minus_bit b = omega (arith, ints)

-- the total of a word's values: from minus the total of the sign bits, each letter's total is added to r times what was there
pub total_of_values : (ts : List (ℕ × ℤ)) (r n sign : ℕ) (w : List ℕ) → total ts (values r n sign w) ≡ run r (neg_ℤ (sign_total ts n sign)) (map (letter_total ts r n) w)
unfolding sign_total
total_of_values ts r n sign w = ap (total ts) (vector_from_same (λ i. value r n i sign w) (λ i. run r (diff 0 (sign_bit n i sign)) (track_digits r n i w)) 0 n (λ j a b. value_is_run r n j sign w)) ∙ total_of_runs ts r n (λ i. diff 0 (sign_bit n i sign)) w ∙ ap (λ x. run r x (map (letter_total ts r n) w)) (total_negated (λ i. diff 0 (sign_bit n i sign)) (λ i. pos (sign_bit n i sign)) (λ i. minus_bit (sign_bit n i sign)) ts n)
