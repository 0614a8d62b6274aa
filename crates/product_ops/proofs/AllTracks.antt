-- Lists of all tracks.
use Rattle.std.proofs.Common.{◌≡◌, ℕ, zero, suc, ◌+◌, ◌<◌, List, [], ◌∷◌, length, map, arith, add-one, refl, ◌∙◌, sym, ap, subst}
use Rattle.std.proofs.Math.IntN.{ℤ, pos}
use Rattle.std.specs.List.{slice_index_or, range_with_len}
use Rattle.std.proofs.lemmas.List.FromFn.{length-range_with_len, get_or-range_with_len}
use Rattle.product_ops.specs.Tracks.{AreTracks, pick_entries}

entry : (n i d : ℕ) → i < length (range_with_len 0 n) → slice_index_or (range_with_len 0 n) i d ≡ i
entry n i d lt = get_or-range_with_len 0 n i d (subst (λ k. i < k) (length-range_with_len 0 n) lt) ∙ omega arith

pub tracks_are : (n : ℕ) → AreTracks n (range_with_len 0 n)
tracks_are n = record {
  below = λ i d lt. subst (λ x. x < n) (sym (entry n i d lt)) (subst (λ k. i < k) (length-range_with_len 0 n) lt);
  distinct = λ i j d lt inside e. let first : i < length (range_with_len 0 n) = omega (arith, lt, inside) in omega (arith, lt, sym (entry n i d first) ∙ e ∙ entry n j d inside);
}

moved : (f : ℕ → ℤ) (a n : ℕ) → map f (range_with_len (a + 1) n) ≡ map (λ i. f (suc i)) (range_with_len a n)
moved f a zero = refl
moved f a (suc n) = ap (λ k. f k ∷ map f (range_with_len (a + 1 + 1) n)) (add-one a) ∙ ap (λ xs. f (suc a) ∷ xs) (moved f (a + 1) n)

all_entries : (ns : List ℤ) → pick_entries (range_with_len 0 (length ns)) ns ≡ ns
all_entries [] = refl
all_entries (x ∷ ns) = ap (λ xs. x ∷ xs) (moved (λ i. slice_index_or (x ∷ ns) i (pos 0)) 0 (length ns) ∙ all_entries ns)

pub picked : (n : ℕ) (ns : List ℤ) → length ns ≡ n → pick_entries (range_with_len 0 n) ns ≡ ns
picked n ns e = subst (λ k. pick_entries (range_with_len 0 k) ns ≡ ns) e (all_entries ns)
