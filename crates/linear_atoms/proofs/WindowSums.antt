-- The sums of coefficients, term by term.
use Rattle.std.proofs.Common.{◌≡◌, ℕ, zero, suc, ◌+◌, ◌^◌, ◌≤◌, ◌<◌, List, [], ◌∷◌, ◌++◌, length, drop, arith, refl, ◌∙◌, sym, ap, subst, unsigned_abs}
use Rattle.std.proofs.Math.IntN.{ℤ, pos, negsuc, ◌+ℤ◌, ◌-ℤ◌}
use Rattle.std.specs.Prelude.{◌≤ℤ◌}
use Rattle.std.specs.List.{slice_index_or}
use Rattle.std.proofs.lemmas.Int.{ints}
use Rattle.std.proofs.lemmas.List.Elements.{All-push, All-nil}
use Rattle.integer_laws.specs.Vectors.{vector, vector_from}
use Rattle.lash_model.specs.Formulas.{Linear, coefficient_sum, Comparison, AtMost, Equal}
use Rattle.lasso_laws.specs.Windows.{negative_part, lowest, window, window_end}
use Rattle.linear_atoms.specs.Closing.{IsSmall}
use Rattle.linear_atoms.specs.Bounds.{IsWindow, AreNegativesSummed, AreMagnitudesSummed, AreSeeds}
use Rattle.linear_atoms.proofs.Summing.{drop_at, drop_all}

negative_small : (a : ℤ) → unsigned_abs (negative_part a) ≤ unsigned_abs a
negative_small (pos n) = omega arith
negative_small (negsuc n) = omega arith

pub negatives_none : (terms : List (ℕ × ℤ)) → AreNegativesSummed terms 0 (pos 0)
negatives_none terms = record { rest = omega (arith, ints); small = omega arith }

pub negatives_more : (terms : List (ℕ × ℤ)) (at : ℕ) (sum : ℤ) (d : ℕ × ℤ) → AreNegativesSummed terms at sum → at < length terms
    → AreNegativesSummed terms (at + 1) (sum +ℤ negative_part (slice_index_or terms at d).1)
unfolding lowest coefficient_sum
negatives_more terms at sum d s h =
    let t : ℕ × ℤ = slice_index_or terms at d in
    let opened : drop at terms ≡ t ∷ drop (suc at) terms = drop_at terms at d h in
    let next : suc at ≡ at + 1 = omega arith in
    let low : lowest (drop at terms) ≡ negative_part t.1 +ℤ lowest (drop (at + 1) terms) = ap lowest opened ∙ ap (λ i. negative_part t.1 +ℤ lowest (drop i terms)) next in
    let weight : coefficient_sum (drop at terms) ≡ unsigned_abs t.1 + coefficient_sum (drop (at + 1) terms) = ap coefficient_sum opened ∙ ap (λ i. unsigned_abs t.1 + coefficient_sum (drop i terms)) next in
    record {
      rest = moved (lowest (drop at terms)) (negative_part t.1) (lowest (drop (at + 1) terms)) sum (lowest terms) low s.rest;
      small = omega (arith, s.small, weight, negative_small t.1, sum_abs sum (negative_part t.1));
    }
  where
    moved : (w x y z v : ℤ) → w ≡ x +ℤ y → w +ℤ z ≡ v → y +ℤ (z +ℤ x) ≡ v
    moved w x y z v e h = omega (arith, ints)

    sum_abs : (a b : ℤ) → unsigned_abs (a +ℤ b) ≤ unsigned_abs a + unsigned_abs b
    sum_abs a b = grind (arith, ints)

pub negatives_all : (terms : List (ℕ × ℤ)) (at : ℕ) (sum : ℤ) → AreNegativesSummed terms at sum → at ≡ length terms → sum ≡ lowest terms
unfolding lowest
negatives_all terms at sum s e = omega (arith, ints, s.rest, ap lowest (ap (λ i. drop i terms) e ∙ drop_all terms))

pub magnitudes_more : (terms : List (ℕ × ℤ)) (at sum : ℕ) (d : ℕ × ℤ) → AreMagnitudesSummed terms at sum → at < length terms
    → AreMagnitudesSummed terms (at + 1) (sum + unsigned_abs (slice_index_or terms at d).1)
unfolding coefficient_sum
magnitudes_more terms at sum d s h =
    let t : ℕ × ℤ = slice_index_or terms at d in
    let next : suc at ≡ at + 1 = omega arith in
    let weight : coefficient_sum (drop at terms) ≡ unsigned_abs t.1 + coefficient_sum (drop (at + 1) terms) =
    ap coefficient_sum (drop_at terms at d h) ∙ ap (λ i. unsigned_abs t.1 + coefficient_sum (drop i terms)) next in
    record { rest = omega (arith, s.rest, weight) }

pub magnitudes_all : (terms : List (ℕ × ℤ)) (at sum : ℕ) → AreMagnitudesSummed terms at sum → at ≡ length terms → sum ≡ coefficient_sum terms
unfolding coefficient_sum
magnitudes_all terms at sum s e = omega (arith, s.rest, ap coefficient_sum (ap (λ i. drop i terms) e ∙ drop_all terms))

pub magnitude_within : (terms : List (ℕ × ℤ)) (at sum : ℕ) (d : ℕ × ℤ) → AreMagnitudesSummed terms at sum → at < length terms
    → sum + unsigned_abs (slice_index_or terms at d).1 ≤ coefficient_sum terms
magnitude_within terms at sum d s h = omega (arith, (magnitudes_more terms at sum d s h).rest)

-- the least bound is not above 0
pub lowest_not_positive : (terms : List (ℕ × ℤ)) → lowest terms ≤ℤ pos 0
unfolding lowest
lowest_not_positive [] = omega (arith, ints)
lowest_not_positive (t ∷ ts) = omega (arith, ints, part t.1, lowest_not_positive ts)
  where
    part : (a : ℤ) → negative_part a ≤ℤ pos 0
    part (pos n) = omega (arith, ints)
    part (negsuc n) = omega (arith, ints)

-- each seed is at most the constant, the magnitudes of the coefficients, and one away from 0
pub seed_small : (kind : Comparison) (terms : List (ℕ × ℤ)) (least : ℤ) (sum : ℕ) (constant seed : ℤ) (at : ℕ) → IsWindow terms least sum → unsigned_abs constant ≤ 2 ^ 40
    → at < window kind terms + 1 → seed ≡ (constant -ℤ window_end kind terms) +ℤ pos at → IsSmall seed
seed_small kind terms least sum constant seed at w c h e = by kind h e
  where
    few : coefficient_sum terms ≤ 2 ^ 24
    few = omega (arith, w.few, w.sum_is)

    least_small : unsigned_abs (lowest terms) ≤ 2 ^ 24
    least_small = subst (λ z. unsigned_abs z ≤ 2 ^ 24) w.least_is w.small

    near : (low : ℤ) (size : ℕ) → size ≤ 2 ^ 24 + 1 → unsigned_abs low ≤ 2 ^ 24 → low ≤ℤ pos 0 → at < size + 1 → seed ≡ (constant -ℤ (low +ℤ pos size)) +ℤ pos at → unsigned_abs seed ≤ 2 ^ 40 + 2 ^ 24 + 1
    near low size s l n h e = grind (arith, ints)

    by : (kind : Comparison) → at < window kind terms + 1 → seed ≡ (constant -ℤ window_end kind terms) +ℤ pos at → IsSmall seed
    by AtMost h e = near (lowest terms) (coefficient_sum terms) (omega (arith, few)) least_small (lowest_not_positive terms) h e
    by Equal h e = near (lowest terms) (coefficient_sum terms + 1) (omega (arith, few)) least_small (lowest_not_positive terms) h e

-- one seed more
vector_more : (f : ℕ → ℤ) (i n : ℕ) → vector_from f i (suc n) ≡ vector_from f i n ++ f (i + n) ∷ []
unfolding vector_from
vector_more f i zero = ap (λ k. f k ∷ []) (omega arith)
vector_more f i (suc n) = ap (λ xs. f i ∷ xs) (vector_more f (suc i) n) ∙ ap (λ k. f i ∷ (vector_from f (suc i) n ++ f k ∷ [])) (omega arith)

pub seeds_none : (kind : Comparison) (a : Linear) → AreSeeds kind a 0 []
unfolding vector_from
seeds_none kind a = record { seeds_are = refl; small = All-nil IsSmall }

seeds_pushed : (f : ℕ → ℤ) (count : ℕ) (seeds : List ℤ) (seed : ℤ) → seeds ≡ vector f count → seed ≡ f count → seeds ++ seed ∷ [] ≡ vector f (count + 1)
seeds_pushed f count seeds seed e is = ap (λ xs. xs ++ seed ∷ []) e ∙ ap (λ x. vector f count ++ x ∷ []) (is ∙ ap f none) ∙ sym (vector_more f 0 count) ∙ ap (λ n. vector f n) next
  where
    next : suc count ≡ count + 1
    next = omega arith

    none : count ≡ 0 + count
    none = omega arith

pub seeds_more : (kind : Comparison) (a : Linear) (count : ℕ) (seeds : List ℤ) (seed : ℤ) → AreSeeds kind a count seeds → seed ≡ (a.constant -ℤ window_end kind a.terms) +ℤ pos count → IsSmall seed
    → AreSeeds kind a (count + 1) (seeds ++ seed ∷ [])
seeds_more kind a count seeds seed s is small = record {
  seeds_are = seeds_pushed (λ i. (a.constant -ℤ window_end kind a.terms) +ℤ pos i) count seeds seed s.seeds_are is;
  small = All-push IsSmall seeds seed s.small small;
}
