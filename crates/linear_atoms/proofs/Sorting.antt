-- The found thresholds in their order.
use Rattle.std.proofs.Common.{◌≡◌, ℕ, zero, suc, ◌+◌, ◌<◌, ◌≤◌, Bool, true, false, List, [], ◌∷◌, length, arith, refl, ◌∙◌, sym, ap, subst, int_eq}
use Rattle.std.proofs.Math.IntN.{ℤ, pos}
use Rattle.std.specs.Prelude.{◌<ℤ◌, All}
use Rattle.std.specs.List.{slice_index_or, AllPairs, Contains, IsDistinct}
use Rattle.std.specs.List.Sorted.{IsPermutation, IsSorted}
use Rattle.std.specs.Ordering.{int_cmp, is_lt, is_eq}
use Rattle.std.specs.Cmp.{int_ranks}
use Rattle.std.proofs.lemmas.Cmp.{int_cmp_total}
use Rattle.std.proofs.lemmas.Int.{ints, by_lt_z}
use Rattle.std.proofs.lemmas.List.Sorted.{sorted_far, ranks_by, Contains-permutation, All-permutation, length_permutation}
use Rattle.std.proofs.lemmas.Map.Keys.{apart_from_distinct, IsDistinct-IsPermutation}
use mathlib.Core.Logic.{inl, inr}
use Rattle.threshold_laws.specs.Thresholds.{Among, IsThreshold, AreThresholds}
use Rattle.linear_atoms.specs.Closing.{entry, IsClosing}
use Rattle.linear_atoms.proofs.Searching.{all_found}

less_from_tests : (x y : ℤ) → is_lt (int_cmp y x) ≡ false → int_eq x y ≡ false → x <ℤ y
less_from_tests x y h k = grind (arith, ints)

same_test : (x y : ℤ) → int_eq x y ≡ int_eq y x
same_test x y = grind (arith, ints)

-- sorted and distinct numbers rise
pub rising_from_sorted : (ks ts : List ℤ) → IsPermutation ks ts → IsDistinct int_eq ks → IsSorted int_cmp ts → AllPairs (λ x y. x <ℤ y) ts
rising_from_sorted ks ts p distinct sorted i j d less inside = less_from_tests (slice_index_or ts i d) (slice_index_or ts j d)
    (sorted_far (λ x y. is_lt (int_cmp x y)) (ranks_by int_cmp_total (λ (x : ℤ). x)) ts sorted i j d (omega arith) inside)
    (apart_from_distinct int_eq ts i j d (IsDistinct-IsPermutation int_eq same_test ks ts p distinct) less inside)

contains_from_among : (z : ℤ) (ks : List ℤ) → Among z ks → Contains ks z
contains_from_among z [] a = absurd a
contains_from_among z (k ∷ ks) (inl here) = (0, omega arith, sym here)
contains_from_among z (k ∷ ks) (inr there) = let c = contains_from_among z ks there in (suc c.0, omega (arith, c.1), c.2)

among_from_place : (z : ℤ) (ks : List ℤ) (i : ℕ) → i < length ks → slice_index_or ks i z ≡ z → Among z ks
among_from_place z [] i h e = absurd (omega arith)
among_from_place z (k ∷ ks) zero h e = inl (sym e)
among_from_place z (k ∷ ks) (suc i) h e = inr (among_from_place z ks i (omega (arith, h)) e)

pub among_permuted : (z : ℤ) (ks ts : List ℤ) → IsPermutation ks ts → Among z ks → Among z ts
among_permuted z ks ts p a = let c = Contains-permutation ks ts z p (contains_from_among z ks a) in among_from_place z ts c.0 c.1 c.2

-- what the search found, in order, is exactly the thresholds
pub thresholds_in_order : (base : ℕ) (totals seeds ks ts : List ℤ) → IsClosing base totals seeds ks (length ks) 0 → IsPermutation ks ts → AllPairs (λ x y. x <ℤ y) ts → AreThresholds base (length totals) (entry totals) seeds ts
thresholds_in_order base totals seeds ks ts c p rising = record {
  rising = rising;
  sound = All-permutation (IsThreshold base (length totals) (entry totals) seeds) ks ts p c.found_so_far.sound;
  complete = λ z t. among_permuted z ks ts p (all_found base totals seeds ks c z t);
}
