-- The gap of a run of bounds is its numerator: both sides hold under a letter, and after enough iterations of the cycle the sign of the gap
-- can be read off the bound.
use Rattle.std.proofs.Common.{◌≡◌, ℕ, zero, suc, ◌+◌, ◌*◌, ◌^◌, ◌≤◌, ◌<◌, List, [], ◌∷◌, ◌++◌, length, arith, ◌∙◌, sym, ap}
use Rattle.std.proofs.Math.IntN.{ℤ, pos, negsuc, ◌+ℤ◌, ◌*ℤ◌}
use Rattle.std.proofs.lemmas.Int.{ints}
use Rattle.std.specs.Prelude.{◌≤ℤ◌, ◌<ℤ◌}
use Rattle.integer_laws.specs.Differences.{diff}
use Rattle.integer_laws.specs.Runs.{run, gain}
use Rattle.integer_laws.proofs.Ring.{diff_same, diff_add, diff_mul, by_diff, pos_diff, le_scaled, le_unscaled}
use Rattle.integer_laws.proofs.Reading.{run-shift, gain-form}
use Rattle.lasso_laws.proofs.Moving.{tours, gain_unrolled, parts, parts_sum}

-- each digit keeps what is at least hi at least hi, and what is at most lo at most lo
unfoldable pub Held : ℕ → ℤ → ℤ → List ℤ → Type 0
Held r lo hi [] = Unit
Held r lo hi (d ∷ ds) = ((hi ≤ℤ ((pos r *ℤ hi) +ℤ d)) × (((pos r *ℤ lo) +ℤ d) ≤ℤ lo)) × Held r lo hi ds

pub above : (r : ℕ) (lo hi x : ℤ) (ds : List ℤ) → Held r lo hi ds → hi ≤ℤ x → hi ≤ℤ run r x ds
unfolding run Held
above r lo hi x [] h k = k
above r lo hi x (d ∷ ds) h k = above r lo hi ((pos r *ℤ x) +ℤ d) ds h.1 (omega (arith, ints, le_scaled r hi x k, h.0.0))

pub below : (r : ℕ) (lo hi x : ℤ) (ds : List ℤ) → Held r lo hi ds → x ≤ℤ lo → run r x ds ≤ℤ lo
unfolding run Held
below r lo hi x [] h k = k
below r lo hi x (d ∷ ds) h k = below r lo hi ((pos r *ℤ x) +ℤ d) ds h.1 (omega (arith, ints, le_scaled r x lo k, h.0.1))

-- strictly beyond stays strictly beyond
beyond_times : (r : ℕ) (x y : ℤ) → 1 ≤ r → x <ℤ y → ((pos r *ℤ x) +ℤ pos 1) ≤ℤ (pos r *ℤ y)
beyond_times zero x y h k = absurd (omega arith)
beyond_times (suc r) x y h k = omega (arith, ints, le_scaled (suc r) (x +ℤ pos 1) y (omega (arith, ints, k)), expand r x)
  where
    expand : (r : ℕ) (x : ℤ) → pos (suc r) *ℤ (x +ℤ pos 1) ≡ (pos (suc r) *ℤ x) +ℤ pos (suc r)
    expand r x = by_diff (λ x. pos (suc r) *ℤ (x +ℤ pos 1) ≡ (pos (suc r) *ℤ x) +ℤ pos (suc r))
        (λ p q. simp (pos_diff, diff_add, diff_mul) (diff_same _ _ _ _ (omega arith))) x

pub beyond_above : (r : ℕ) (hi x d : ℤ) → 1 ≤ r → hi ≤ℤ ((pos r *ℤ hi) +ℤ d) → hi <ℤ x → hi <ℤ ((pos r *ℤ x) +ℤ d)
beyond_above r hi x d h k l = omega (arith, ints, beyond_times r hi x h l, k)

pub beyond_below : (r : ℕ) (lo x d : ℤ) → 1 ≤ r → ((pos r *ℤ lo) +ℤ d) ≤ℤ lo → x <ℤ lo → ((pos r *ℤ x) +ℤ d) <ℤ lo
beyond_below r lo x d h k l = omega (arith, ints, beyond_times r x lo h l, k)

more_than : (k : ℕ) (a : ℤ) → pos (suc k) *ℤ a ≡ (pos k *ℤ a) +ℤ a
more_than k a = by_diff (λ a. pos (suc k) *ℤ a ≡ (pos k *ℤ a) +ℤ a) (λ p q. simp (pos_diff, diff_add, diff_mul) (diff_same _ _ _ _ (omega arith))) a

-- the cycle's own value, between -(R - 1) hi and -(R - 1) lo
pub cycle_low : (r k : ℕ) (lo hi : ℤ) (v : List ℤ) → r ^ length v ≡ suc k → Held r lo hi v → pos 0 ≤ℤ ((pos k *ℤ hi) +ℤ run r (pos 0) v)
cycle_low r k lo hi v e h = omega (
  arith,
  ints,
  above r lo hi hi v h (omega (arith, ints)),
  run-shift r hi v
      ∙ ap (λ n. (pos n *ℤ hi) +ℤ run r (pos 0) v) e,
  more_than k hi,
)

pub cycle_high : (r k : ℕ) (lo hi : ℤ) (v : List ℤ) → r ^ length v ≡ suc k → Held r lo hi v → ((pos k *ℤ lo) +ℤ run r (pos 0) v) ≤ℤ pos 0
cycle_high r k lo hi v e h = omega (
  arith,
  ints,
  below r lo hi lo v h (omega (arith, ints)),
  run-shift r lo v
      ∙ ap (λ n. (pos n *ℤ lo) +ℤ run r (pos 0) v) e,
  more_than k lo,
)

-- the bound after j iterations and the gap
pub bound_and_gap : (r k : ℕ) (x : ℤ) (u v : List ℤ) (j : ℕ) → r ^ length v ≡ suc k
    → (pos k *ℤ run r x (u ++ tours j v)) +ℤ run r (pos 0) v ≡ pos ((suc k) ^ j) *ℤ gain r x u v
bound_and_gap r k x u v j e = sym (gain-form r k x (u ++ tours j v) v e) ∙ gain_unrolled r x u v j ∙ ap (λ n. pos (n ^ j) *ℤ gain r x u v) e

-- powers grow: R ^ j is above (R - 1) j
pub growth : (k j : ℕ) → k * j < (suc k) ^ j
unfolding parts
growth k j = omega (arith, parts_sum k j, times_least k (parts (suc k) j) j (parts_least k j))
  where
    parts_least : (k j : ℕ) → j ≤ parts (suc k) j
    parts_least k zero = omega arith
    parts_least k (suc j) = more k j (parts (suc k) j) (parts_least k j)
      where
        more : (k j a : ℕ) → j ≤ a → suc j ≤ a * suc k + 1
        more k j a h = grind arith

    times_least : (k a j : ℕ) → j ≤ a → k * j ≤ a * k
    times_least k a j h = grind arith

-- ---- the sign of the gap, read off the bound after enough iterations
pub none_times : (p : ℕ) → pos p *ℤ pos 0 ≡ pos 0
none_times p = simp (pos_diff, diff_mul) (diff_same _ _ _ _ (omega arith))

-- at least 0: the bound is not below lo
pub not_below : (k p : ℕ) (lo b c gap : ℤ) → 1 ≤ k → (pos k *ℤ b) +ℤ c ≡ pos p *ℤ gap → ((pos k *ℤ lo) +ℤ c) ≤ℤ pos 0 → pos 0 ≤ℤ gap → lo ≤ℤ b
not_below zero p lo b c gap one e h g = absurd (omega arith)
not_below (suc k) p lo b c gap one e h g = le_unscaled k lo b (omega (arith, ints, e, h, le_scaled p (pos 0) gap g, none_times p))

pub not_above : (k p : ℕ) (hi b c gap : ℤ) → 1 ≤ k → (pos k *ℤ b) +ℤ c ≡ pos p *ℤ gap → pos 0 ≤ℤ ((pos k *ℤ hi) +ℤ c) → gap ≤ℤ pos 0 → b ≤ℤ hi
not_above zero p hi b c gap one e h g = absurd (omega arith)
not_above (suc k) p hi b c gap one e h g = le_unscaled k b hi (omega (arith, ints, e, h, le_scaled p gap (pos 0) g, none_times p))

one_times : (p : ℕ) → pos p *ℤ pos 1 ≡ pos p
one_times p = simp (pos_diff, diff_mul) (diff_same _ _ _ _ (omega arith))

minus_times : (p : ℕ) → pos p *ℤ diff 0 1 ≡ diff 0 p
minus_times p = simp (pos_diff, diff_mul) (diff_same _ _ _ _ (omega arith))

wide : (k width : ℕ) (lo hi : ℤ) → hi ≤ℤ (lo +ℤ pos width) → (pos k *ℤ hi) ≤ℤ ((pos k *ℤ lo) +ℤ pos (k * width))
wide k width lo hi h = omega (arith, ints, le_scaled k hi (lo +ℤ pos width) h, expand k width lo)
  where
    expand : (k width : ℕ) (lo : ℤ) → pos k *ℤ (lo +ℤ pos width) ≡ (pos k *ℤ lo) +ℤ pos (k * width)
    expand k width lo = by_diff (λ lo. pos k *ℤ (lo +ℤ pos width) ≡ (pos k *ℤ lo) +ℤ pos (k * width))
        (λ p q. simp (pos_diff, diff_add, diff_mul) (diff_same _ _ _ _ (omega arith))) lo

-- below 0: the bound is below lo
pub gap_not_negative : (k p width : ℕ) (lo hi b c gap : ℤ) → hi ≤ℤ (lo +ℤ pos width) → k * width < p → (pos k *ℤ b) +ℤ c ≡ pos p *ℤ gap
    → pos 0 ≤ℤ ((pos k *ℤ hi) +ℤ c) → lo ≤ℤ b → pos 0 ≤ℤ gap
unfolding diff
gap_not_negative k p width lo hi b c (pos n) w g e h l = omega (arith, ints)
gap_not_negative k p width lo hi b c (negsuc n) w g e h l =
    absurd (omega (arith, ints, wide k width lo hi w, g, e, h, le_scaled k lo b l, le_scaled p (negsuc n) (diff 0 1) (omega (arith, ints)), minus_times p))

pub gap_not_positive : (k p width : ℕ) (lo hi b c gap : ℤ) → hi ≤ℤ (lo +ℤ pos width) → k * width < p → (pos k *ℤ b) +ℤ c ≡ pos p *ℤ gap
    → ((pos k *ℤ lo) +ℤ c) ≤ℤ pos 0 → b ≤ℤ hi → gap ≤ℤ pos 0
gap_not_positive k p width lo hi b c (pos zero) w g e h l = omega (arith, ints)
gap_not_positive k p width lo hi b c (pos (suc n)) w g e h l =
    absurd (omega (arith, ints, wide k width lo hi w, g, e, h, le_scaled k b hi l, le_scaled p (pos 1) (pos (suc n)) (omega (arith, ints)), one_times p))
gap_not_positive k p width lo hi b c (negsuc n) w g e h l = omega (arith, ints)
