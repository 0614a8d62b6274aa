-- Sides of a window: the total of a letter's digits lies between r - 1 times the coefficients below 0 and those above 0.
use Rattle.std.proofs.Common.{◌≡◌, ℕ, suc, ◌+◌, ◌*◌, ◌^◌, ◌≤◌, ◌<◌, List, [], ◌∷◌, arith, sym, ap, subst}
use Rattle.std.proofs.Math.IntN.{ℤ, pos, negsuc, ◌+ℤ◌, ◌-ℤ◌, ◌*ℤ◌, pos-*ℤ-pos}
use Rattle.std.specs.Prelude.{◌≤ℤ◌, unsigned_abs}
use Rattle.std.specs.List.{slice_index_or}
use Rattle.std.proofs.lemmas.Int.{ints}
use Rattle.std.proofs.lemmas.Bool.{cases_lt}
use Rattle.std.proofs.lemmas.List.{get_or_past}
use Rattle.std.proofs.lemmas.Nat.{mod_below}
use mathlib.Core.Logic.{◌⊎◌, inl, inr}
use Rattle.integer_laws.specs.Vectors.{vector}
use Rattle.integer_laws.proofs.Ring.{diff_same, diff_add, diff_mul, diff_le, by_diff, pos_diff, negsuc_diff, times_sum}
use Rattle.integer_laws.proofs.Entries.{entry-vector, length-vector_from}
use Rattle.lash_model.specs.Letters.{digit}
use Rattle.lash_model.specs.Formulas.{coefficient_sum}
use Rattle.lash_model.specs.Meaning.{total}
use Rattle.threshold_laws.specs.Thresholds.{letter_total}
use Rattle.lash_model.proofs.Digits.{digit-quotient}
use Rattle.lasso_laws.specs.Windows.{negative_part, lowest}

-- a digit is below the base
pub digit_below : (r n i l : ℕ) → 0 < r → i < n → l < r ^ n → digit r n i l < r
digit_below r n i l h k s = subst (λ d. d < r) (sym (digit-quotient r n i l h k s)) (mod_below _ r h)

-- an entry that is a natural of at most k
pub record IsSmallEntry (k : ℕ) (x : ℤ) : Type 0 where
  pub value : ℕ
  pub small : value ≤ k
  pub is : x ≡ pos value

entry_of_letter : (k n l : ℕ) → l < suc k ^ n → (p : ℕ) → IsSmallEntry k (slice_index_or (vector (λ i. pos (digit (suc k) n i l)) n) p (pos 0))
entry_of_letter k n l h p = by (cases_lt p n)
  where
    by : (p < n) ⊎ (n ≤ p) → IsSmallEntry k (slice_index_or (vector (λ i. pos (digit (suc k) n i l)) n) p (pos 0))
    by (inl s) = record {
      value = digit (suc k) n p l;
      small = omega (arith, digit_below (suc k) n p l (omega arith) s h);
      is =
          entry-vector (λ i. pos (digit (suc k) n i l)) n p s;
    }
    by (inr s) = record {
      value = 0;
      small = omega arith;
      is =
          get_or_past (vector (λ i. pos (digit (suc k) n i l)) n) p (pos 0) (omega (arith, length-vector_from (λ i. pos (digit (suc k) n i l)) 0 n, s));
    }

term_low : (k d : ℕ) (a : ℤ) → d ≤ k → (pos k *ℤ negative_part a) ≤ℤ (a *ℤ pos d)
term_low k d (pos n) h = simp (pos_diff, diff_mul) (diff_le _ _ _ _ (omega arith))
term_low k d (negsuc n) h = subst (λ a. (pos k *ℤ a) ≤ℤ (a *ℤ pos d)) (sym (negsuc_diff n))
    (simp (pos_diff, diff_mul) (diff_le _ _ _ _ (omega (arith, below k d (n + 1) h))))
  where
    below : (k d n : ℕ) → d ≤ k → d * n ≤ k * n
    below k d n h = grind arith

term_high : (k d : ℕ) (a : ℤ) → d ≤ k → (a *ℤ pos d) ≤ℤ (pos k *ℤ (negative_part a +ℤ pos (unsigned_abs a)))
term_high k d (pos n) h = subst (λ x. (pos n *ℤ pos d) ≤ℤ (pos k *ℤ x)) (start n) (simp pos-*ℤ-pos (omega (arith, ints, below k d n h)))
  where
    start : (n : ℕ) → pos n ≡ pos 0 +ℤ pos n
    start n = omega (arith, ints)

    below : (k d n : ℕ) → d ≤ k → n * d ≤ k * n
    below k d n h = grind arith
term_high k d (negsuc n) h = subst (λ x. (negsuc n *ℤ pos d) ≤ℤ (pos k *ℤ x)) (gone n)
    (subst (λ a. (a *ℤ pos d) ≤ℤ (pos k *ℤ pos 0)) (sym (negsuc_diff n)) (simp (pos_diff, diff_mul) (diff_le _ _ _ _ (omega arith))))
  where
    gone : (n : ℕ) → pos 0 ≡ negsuc n +ℤ pos (suc n)
    gone n = omega (arith, ints)

no_times : (k : ℕ) → pos k *ℤ pos 0 ≡ pos 0
no_times k = simp (pos_diff, diff_mul) (diff_same _ _ _ _ (omega arith))

pub total_low : (k : ℕ) (ts : List (ℕ × ℤ)) (ns : List ℤ) → ((p : ℕ) → IsSmallEntry k (slice_index_or ns p (pos 0))) → (pos k *ℤ lowest ts) ≤ℤ total ts ns
unfolding lowest total
total_low k [] ns h = omega (arith, ints, no_times k)
total_low k (t ∷ ts) ns h = let e = h t.0 in
    omega (arith, ints, total_low k ts ns h, term_low k e.value t.1 e.small, ap (λ y. t.1 *ℤ y) e.is, times_sum (pos k) (negative_part t.1) (lowest ts))

pub total_high : (k : ℕ) (ts : List (ℕ × ℤ)) (ns : List ℤ) → ((p : ℕ) → IsSmallEntry k (slice_index_or ns p (pos 0)))
    → total ts ns ≤ℤ (pos k *ℤ (lowest ts +ℤ pos (coefficient_sum ts)))
unfolding lowest total coefficient_sum
total_high k [] ns h = omega (arith, ints, no_times k, ap (λ y. pos k *ℤ y) nothing)
  where
    nothing : pos 0 ≡ pos 0 +ℤ pos 0
    nothing = omega (arith, ints)
total_high k (t ∷ ts) ns h = let e = h t.0 in
    omega (
      arith,
      ints,
      total_high k ts ns h,
      term_high k e.value t.1 e.small,
      ap (λ y. t.1 *ℤ y) e.is,
      times_sum (pos k)
          (negative_part t.1 +ℤ pos (unsigned_abs t.1)) (lowest ts +ℤ pos (coefficient_sum ts)),
      ap (λ y. pos k *ℤ y)
          (regroup (negative_part t.1) (lowest ts) (unsigned_abs t.1) (coefficient_sum ts)),
    )
  where
    regroup : (x y : ℤ) (m s : ℕ) → (x +ℤ pos m) +ℤ (y +ℤ pos s) ≡ (x +ℤ y) +ℤ pos (m + s)
    regroup x y m s = omega (arith, ints)

one_more : (k : ℕ) (a : ℤ) → pos (suc k) *ℤ a ≡ (pos k *ℤ a) +ℤ a
one_more k a = by_diff (λ a. pos (suc k) *ℤ a ≡ (pos k *ℤ a) +ℤ a) (λ p q. simp (pos_diff, diff_add, diff_mul) (diff_same _ _ _ _ (omega arith))) a

-- so a letter keeps what is at most the least bound there, and what is at least the greatest
pub side_low : (k n l : ℕ) (ts : List (ℕ × ℤ)) → l < suc k ^ n → ((pos (suc k) *ℤ lowest ts) -ℤ letter_total ts (suc k) n l) ≤ℤ lowest ts
unfolding letter_total
side_low k n l ts h = omega (arith, ints, total_low k ts (vector (λ i. pos (digit (suc k) n i l)) n) (entry_of_letter k n l h), one_more k (lowest ts))

pub side_high : (k n l : ℕ) (ts : List (ℕ × ℤ)) → l < suc k ^ n
    → (lowest ts +ℤ pos (coefficient_sum ts)) ≤ℤ ((pos (suc k) *ℤ (lowest ts +ℤ pos (coefficient_sum ts))) -ℤ letter_total ts (suc k) n l)
unfolding letter_total
side_high k n l ts h = omega (
  arith,
  ints,
  total_high k ts (vector (λ i. pos (digit (suc k) n i l)) n) (entry_of_letter k n l h),
  one_more k
      (lowest ts +ℤ pos (coefficient_sum ts)),
)
