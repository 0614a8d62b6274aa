-- A graph of bounds tells an atom: the colour after the stem and as many iterations of the cycle as there are fraction states is yes
-- exactly if the atom holds at the lasso's point.
use Rattle.std.proofs.Common.{◌≡◌, ℕ, zero, suc, ◌+◌, ◌*◌, ◌^◌, ◌≤◌, ◌<◌, true, List, ◌++◌, length, map, arith, refl, ◌∙◌, sym, ap}
use Rattle.std.proofs.Math.IntN.{ℤ, pos, neg_ℤ, ◌+ℤ◌, ◌-ℤ◌, ◌*ℤ◌}
use Rattle.std.proofs.Math.Nat.{pow-suc}
use Rattle.std.specs.Prelude.{◌≤ℤ◌, ◌<ℤ◌, ◌↔◌, IsTrue, nat_eq, slice_index}
use Rattle.std.specs.List.{AllByRecursion}
use Rattle.std.proofs.lemmas.Int.{ints, by_lt_z}
use Rattle.std.proofs.lemmas.List.{length-map, map-append}
use Rattle.std.proofs.lemmas.List.Elements.{recursion_from_All}
use Rattle.integer_laws.specs.Runs.{run, gain}
use Rattle.integer_laws.proofs.Ring.{le_scaled}
use Rattle.graph_laws.specs.Walks.{go, copies}
use Rattle.lash_model.specs.Words.{values}
use Rattle.lash_model.specs.Lassos.{Lasso, IsLasso, denominator, numerators}
use Rattle.lash_model.specs.Formulas.{Linear, coefficient_sum, Comparison, AtMost, Equal, Atom}
use Rattle.lash_model.specs.Meaning.{total, holds}
use Rattle.threshold_laws.specs.Thresholds.{letter_total}
use Rattle.lash_model.proofs.Digits.{power_positive}
use Rattle.lasso_laws.specs.Windows.{lowest, window_end, next_bound, IsBoundGraph}
use Rattle.lasso_laws.proofs.Moving.{tours}
use Rattle.lasso_laws.proofs.Gaps.{beyond_above, beyond_below, cycle_low, cycle_high, bound_and_gap, growth, not_below, not_above, gap_not_negative}
use Rattle.lasso_laws.proofs.Gaps.{gap_not_positive}
use Rattle.lasso_laws.proofs.Letters.{side_low, side_high}
use Rattle.lasso_laws.proofs.Bounds.{bound_digit, gap_is, held, map-copies, walk_bounds}
use Rattle.part_laws.proofs.Walking.{word-append, word-copies}

-- the greatest bound whose letters can hold it: the sum of the coefficients above 0
highest : List (ℕ × ℤ) → ℤ
highest terms = lowest terms +ℤ pos (coefficient_sum terms)

step_is : (k n : ℕ) (terms : List (ℕ × ℤ)) (x : ℤ) (l : ℕ) → next_bound terms (suc k) n x l ≡ (pos (suc k) *ℤ x) +ℤ bound_digit terms (suc k) n l
unfolding bound_digit
step_is k n terms x l = omega (arith, ints)

-- what is above the window or below it stays there
end_stays : (kind : Comparison) (k n : ℕ) (terms : List (ℕ × ℤ)) (x : ℤ) (l : ℕ) → l < suc k ^ n → (window_end kind terms) ≤ℤ x
    → (window_end kind terms) ≤ℤ (next_bound terms (suc k) n x l)
unfolding highest
end_stays AtMost k n terms x l h a = omega (arith, ints, side_high k n l terms h, le_scaled (suc k) (highest terms) x a)
end_stays Equal k n terms x l h a =
    over_end (beyond_above (suc k) (highest terms) x (neg_ℤ (letter_total terms (suc k) n l)) (omega arith) (as_sum (side_high k n l terms h)) (past a))
  where
    past : (window_end Equal terms) ≤ℤ x → highest terms <ℤ x
    past a = omega (arith, ints, a)

    as_sum : (highest terms) ≤ℤ ((pos (suc k) *ℤ highest terms) -ℤ letter_total terms (suc k) n l)
        → (highest terms) ≤ℤ ((pos (suc k) *ℤ highest terms) +ℤ neg_ℤ (letter_total terms (suc k) n l))
    as_sum h = omega (arith, ints, h)

    over_end : highest terms <ℤ ((pos (suc k) *ℤ x) +ℤ neg_ℤ (letter_total terms (suc k) n l)) → (window_end Equal terms) ≤ℤ (next_bound terms (suc k) n x l)
    over_end h = omega (arith, ints, h)

below_stays : (k n : ℕ) (terms : List (ℕ × ℤ)) (x : ℤ) (l : ℕ) → l < suc k ^ n → x <ℤ lowest terms → (next_bound terms (suc k) n x l) <ℤ lowest terms
below_stays k n terms x l h a =
    as_less (beyond_below (suc k) (lowest terms) x (neg_ℤ (letter_total terms (suc k) n l)) (omega arith) (as_sum (side_low k n l terms h)) a)
  where
    as_sum : ((pos (suc k) *ℤ lowest terms) -ℤ letter_total terms (suc k) n l) ≤ℤ lowest terms
        → ((pos (suc k) *ℤ lowest terms) +ℤ neg_ℤ (letter_total terms (suc k) n l)) ≤ℤ lowest terms
    as_sum h = omega (arith, ints, h)

    as_less : ((pos (suc k) *ℤ x) +ℤ neg_ℤ (letter_total terms (suc k) n l)) <ℤ lowest terms → (next_bound terms (suc k) n x l) <ℤ lowest terms
    as_less h = omega (arith, ints, h)

-- so every bound's state leads to that of the next bound
leads : (kind : Comparison) (k n : ℕ) (terms : List (ℕ × ℤ)) (rows colours : List ℕ) (state : ℤ → ℕ) → IsBoundGraph kind terms (suc k) n rows colours state
    → (x : ℤ) (l : ℕ) → l < suc k ^ n → slice_index rows (state x * suc k ^ n + l) ≡ state ((pos (suc k) *ℤ x) +ℤ bound_digit terms (suc k) n l)
leads kind k n terms rows colours state g x l h = by_lt_z x (lowest terms)
    (λ under. g.below_stays x l under h ∙ g.below x (next_bound terms (suc k) n x l) under (below_stays k n terms x l h under))
    (λ low. by_lt_z x (window_end kind terms)
    (λ inside. g.inside x l low inside h)
    (λ over. g.above_stays x l over h ∙ g.above x (next_bound terms (suc k) n x l) over (end_stays kind k n terms x l h over)))
    ∙ ap state (step_is k n terms x l)

-- ---- the colour of a bound's state
yes_from : (kind : Comparison) (k n : ℕ) (terms : List (ℕ × ℤ)) (rows colours : List ℕ) (state : ℤ → ℕ)
    → IsBoundGraph kind terms (suc k) n rows colours state → (x : ℤ) → slice_index colours (state x) ≡ 1 → (lowest terms) ≤ℤ x
yes_from kind k n terms rows colours state g x e = by_lt_z x (lowest terms) (λ under. absurd (omega (arith, e, g.below_no x under))) (λ low. low)

yes_upto : (k n : ℕ) (terms : List (ℕ × ℤ)) (rows colours : List ℕ) (state : ℤ → ℕ) → IsBoundGraph Equal terms (suc k) n rows colours state → (x : ℤ)
    → slice_index colours (state x) ≡ 1 → x ≤ℤ highest terms
unfolding highest
yes_upto k n terms rows colours state g x e = by_lt_z x (window_end Equal terms) (λ inside. omega (arith, ints, inside))
    (λ over. absurd (omega (arith, e, g.above_is x over)))

at_most_yes : (k n : ℕ) (terms : List (ℕ × ℤ)) (rows colours : List ℕ) (state : ℤ → ℕ) → IsBoundGraph AtMost terms (suc k) n rows colours state → (x : ℤ)
    → (lowest terms) ≤ℤ x → slice_index colours (state x) ≡ 1
at_most_yes k n terms rows colours state g x h = by_lt_z x (window_end AtMost terms) (λ inside. g.inside_yes x h inside) (λ over. g.above_is x over)

equal_yes : (k n : ℕ) (terms : List (ℕ × ℤ)) (rows colours : List ℕ) (state : ℤ → ℕ) → IsBoundGraph Equal terms (suc k) n rows colours state → (x : ℤ)
    → (lowest terms) ≤ℤ x → x ≤ℤ highest terms → slice_index colours (state x) ≡ 1
unfolding highest
equal_yes k n terms rows colours state g x h i = g.inside_yes x h (omega (arith, ints, i))

-- ---- R is 1 more than some k, which is at least 1
record Power (r n : ℕ) : Type 0 where
  less : ℕ
  is : r ^ n ≡ suc less
  positive : 1 ≤ less

power_of : (r n : ℕ) → 2 ≤ r → 0 < n → Power r n
power_of r zero h some = absurd (omega (arith, some))
power_of r (suc n) h some = from (r ^ suc n) refl (big (r ^ n) (power_positive r n (omega arith)) (pow-suc r n))
  where
    product : (a r : ℕ) → 2 ≤ r → 1 ≤ a → 2 ≤ a * r
    product a r h k = grind arith

    big : (a : ℕ) → 1 ≤ a → r ^ suc n ≡ a * r → 2 ≤ r ^ suc n
    big a k e = rw e (product a r h k)

    from : (p : ℕ) → r ^ suc n ≡ p → 2 ≤ r ^ suc n → Power r (suc n)
    from zero e k = absurd (omega (arith, e, k))
    from (suc p) e k = record { less = p; is = e; positive = omega (arith, e, k) }

-- ---- the bound after the iterations, and the gap
record Turned (k n : ℕ) (terms : List (ℕ × ℤ)) (turns : ℕ) (start : ℤ) (u v : List ℕ) : Type 0 where
  less : ℕ
  positive : 1 ≤ less
  bound : ℤ
  cycle : ℤ
  is_bound : bound ≡ run (suc k) start (map (bound_digit terms (suc k) n) (u ++ copies turns v))
  joined : (pos less *ℤ bound) +ℤ cycle ≡ pos (suc less ^ turns) *ℤ gain (suc k) start (map (bound_digit terms (suc k) n) u)
      (map (bound_digit terms (suc k) n) v)
  low : pos 0 ≤ℤ ((pos less *ℤ highest terms) +ℤ cycle)
  high : ((pos less *ℤ lowest terms) +ℤ cycle) ≤ℤ pos 0

turned_of : (k n : ℕ) (terms : List (ℕ × ℤ)) (turns : ℕ) (start : ℤ) (u v : List ℕ) → 1 ≤ k → 0 < length v → AllByRecursion (λ l. l < suc k ^ n) v
    → Turned k n terms turns start u v
unfolding highest
turned_of k n terms turns start u v two some letters = record {
  less = p.less;
  positive = p.positive;
  bound = run (suc k) start (map e u ++ tours turns (map e v));
  cycle = run (suc k) (pos 0) (map e v);
  is_bound = ap (run (suc k) start) (sym (map-append e u (copies turns v) ∙ ap (λ w. map e u ++ w) (map-copies e turns v)));
  joined = bound_and_gap (suc k) p.less start (map e u) (map e v) turns big;
  low = cycle_low (suc k) p.less (lowest terms) (lowest terms +ℤ pos (coefficient_sum terms)) (map e v) big (held k n terms v letters);
  high = cycle_high (suc k) p.less (lowest terms) (lowest terms +ℤ pos (coefficient_sum terms)) (map e v) big (held k n terms v letters);
}
  where
    e : ℕ → ℤ
    e = bound_digit terms (suc k) n

    p : Power (suc k) (length v)
    p = power_of (suc k) (length v) (omega (arith, two)) some

    big : suc k ^ length (map e v) ≡ suc p.less
    big = ap (λ m. suc k ^ m) (length-map v e) ∙ p.is

-- the window is no wider than there are fraction states
wide : (terms : List (ℕ × ℤ)) (m : ℕ) → coefficient_sum terms < m → (highest terms) ≤ℤ (lowest terms +ℤ pos m)
unfolding highest
wide terms m h = omega (arith, ints, h)

-- ---- the colour after the iterations tells the sign of the gap
at_most_tells : (k n : ℕ) (terms : List (ℕ × ℤ)) (rows colours : List ℕ) (state : ℤ → ℕ) → IsBoundGraph AtMost terms (suc k) n rows colours state
    → (start : ℤ) (u v : List ℕ) (t : Turned k n terms (length colours) start u v) → (slice_index colours (state t.bound) ≡ 1)
    ↔ ((pos 0) ≤ℤ (gain (suc k) start (map (bound_digit terms (suc k) n) u) (map (bound_digit terms (suc k) n) v)))
at_most_tells k n terms rows colours state g start u v t = (
  λ e. gap_not_negative t.less (suc t.less ^ length colours) (length colours) (lowest terms) (highest terms) t.bound t.cycle gap
      (wide terms (length colours) g.enough) (growth t.less (length colours)) t.joined t.low (yes_from AtMost k n terms rows colours state g t.bound e),
  λ h. at_most_yes k n terms rows colours state g t.bound
      (not_below t.less (suc t.less ^ length colours) (lowest terms) t.bound t.cycle gap t.positive t.joined t.high h),
)
  where
    gap : ℤ
    gap = gain (suc k) start (map (bound_digit terms (suc k) n) u) (map (bound_digit terms (suc k) n) v)

equal_tells : (k n : ℕ) (terms : List (ℕ × ℤ)) (rows colours : List ℕ) (state : ℤ → ℕ) → IsBoundGraph Equal terms (suc k) n rows colours state
    → (start : ℤ) (u v : List ℕ) (t : Turned k n terms (length colours) start u v) → (slice_index colours (state t.bound) ≡ 1)
    ↔ (gain (suc k) start (map (bound_digit terms (suc k) n) u) (map (bound_digit terms (suc k) n) v) ≡ pos 0)
equal_tells k n terms rows colours state g start u v t = (
  λ e. both gap
      (gap_not_negative t.less (suc t.less ^ length colours) (length colours) (lowest terms) (highest terms) t.bound t.cycle gap
      (wide terms (length colours) g.enough) (growth t.less (length colours)) t.joined t.low (yes_from Equal k n terms rows colours state g t.bound e))
      (gap_not_positive t.less (suc t.less ^ length colours) (length colours) (lowest terms) (highest terms) t.bound t.cycle gap
      (wide terms (length colours) g.enough) (growth t.less (length colours)) t.joined t.high (yes_upto k n terms rows colours state g t.bound e)),
  λ h. equal_yes k n terms rows colours state g t.bound
      (not_below t.less (suc t.less ^ length colours) (lowest terms) t.bound t.cycle gap t.positive t.joined t.high (from_low gap h))
      (not_above t.less (suc t.less ^ length colours) (highest terms) t.bound t.cycle gap t.positive t.joined t.low (from_high gap h)),
)
  where
    gap : ℤ
    gap = gain (suc k) start (map (bound_digit terms (suc k) n) u) (map (bound_digit terms (suc k) n) v)

    both : (g : ℤ) → (pos 0) ≤ℤ g → g ≤ℤ pos 0 → g ≡ pos 0
    both g h i = omega (arith, ints, h, i)

    from_low : (g : ℤ) → g ≡ pos 0 → (pos 0) ≤ℤ g
    from_low g e = omega (arith, ints, e)

    from_high : (g : ℤ) → g ≡ pos 0 → g ≤ℤ pos 0
    from_high g e = omega (arith, ints, e)

-- and the sign of the gap is the atom's meaning
gap_means : (kind : Comparison) (k n : ℕ) (a : Linear) (rows colours : List ℕ) (state : ℤ → ℕ) → IsBoundGraph kind a.terms (suc k) n rows colours state
    → (x : Lasso) → (t : Turned k n a.terms (length colours) (a.constant -ℤ total a.terms (values (suc k) n x.sign x.whole)) x.stem x.cycle)
    → (slice_index colours (state t.bound) ≡ 1) ↔ holds (Atom kind a) (numerators (suc k) n x) (denominator (suc k) x)
unfolding holds
gap_means AtMost k n a rows colours state g x t =
    let gap : gain (suc k) (a.constant -ℤ total a.terms (values (suc k) n x.sign x.whole)) (map (bound_digit a.terms (suc k) n) x.stem)
    (map (bound_digit a.terms (suc k) n) x.cycle) ≡ (a.constant *ℤ pos (denominator (suc k) x)) -ℤ total a.terms (numerators (suc k) n x) =
    gap_is a.terms a.constant (suc k) n x (omega arith) in
    let both : (slice_index colours (state t.bound) ≡ 1)
    ↔ ((pos 0) ≤ℤ (gain (suc k) (a.constant -ℤ total a.terms (values (suc k) n x.sign x.whole)) (map (bound_digit a.terms (suc k) n) x.stem)
    (map (bound_digit a.terms (suc k) n) x.cycle))) =
    at_most_tells k n a.terms rows colours state g (a.constant -ℤ total a.terms (values (suc k) n x.sign x.whole)) x.stem x.cycle t in
    (λ e. omega (arith, ints, both.0 e, gap), λ h. both.1 (omega (arith, ints, h, gap)))
gap_means Equal k n a rows colours state g x t =
    let gap : gain (suc k) (a.constant -ℤ total a.terms (values (suc k) n x.sign x.whole)) (map (bound_digit a.terms (suc k) n) x.stem)
    (map (bound_digit a.terms (suc k) n) x.cycle) ≡ (a.constant *ℤ pos (denominator (suc k) x)) -ℤ total a.terms (numerators (suc k) n x) =
    gap_is a.terms a.constant (suc k) n x (omega arith) in
    let both : (slice_index colours (state t.bound) ≡ 1)
    ↔ (gain (suc k) (a.constant -ℤ total a.terms (values (suc k) n x.sign x.whole)) (map (bound_digit a.terms (suc k) n) x.stem)
    (map (bound_digit a.terms (suc k) n) x.cycle) ≡ pos 0) =
    equal_tells k n a.terms rows colours state g (a.constant -ℤ total a.terms (values (suc k) n x.sign x.whole)) x.stem x.cycle t in
    (λ e. omega (arith, ints, both.0 e, gap), λ h. both.1 (omega (arith, ints, h, gap)))

pub yes_is : (c : ℕ) → nat_eq c 1 ≡ true → c ≡ 1
yes_is c h = grind arith

pub is_yes : (c : ℕ) → c ≡ 1 → nat_eq c 1 ≡ true
is_yes c h = grind arith

-- the theorem, with the base as a successor
tells : (kind : Comparison) (a : Linear) (k n : ℕ) (rows colours : List ℕ) (state : ℤ → ℕ) → 1 ≤ k → IsBoundGraph kind a.terms (suc k) n rows colours state
    → (x : Lasso) → IsLasso (suc k) n x
    → IsTrue (nat_eq (slice_index colours
    (go rows (suc k ^ n) (state (a.constant -ℤ total a.terms (values (suc k) n x.sign x.whole))) (x.stem ++ copies (length colours) x.cycle))) 1)
    ↔ holds (Atom kind a) (numerators (suc k) n x) (denominator (suc k) x)
tells kind a k n rows colours state two g x h = (λ e. means.0 (sym there ∙ yes_is _ e), λ m. is_yes _ (there ∙ means.1 m))
  where
    start : ℤ
    start = a.constant -ℤ total a.terms (values (suc k) n x.sign x.whole)

    stem_letters : AllByRecursion (λ l. l < suc k ^ n) x.stem
    stem_letters = recursion_from_All (λ l. l < suc k ^ n) x.stem h.stem

    cycle_letters : AllByRecursion (λ l. l < suc k ^ n) x.cycle
    cycle_letters = recursion_from_All (λ l. l < suc k ^ n) x.cycle h.cycle

    t : Turned k n a.terms (length colours) start x.stem x.cycle
    t = turned_of k n a.terms (length colours) start x.stem x.cycle two h.turns cycle_letters

    there : slice_index colours (go rows (suc k ^ n) (state start) (x.stem ++ copies (length colours) x.cycle)) ≡ slice_index colours (state t.bound)
    there = ap (slice_index colours)
        (walk_bounds rows (suc k ^ n) (suc k) (bound_digit a.terms (suc k) n) state (leads kind k n a.terms rows colours state g) start
        (x.stem ++ copies (length colours) x.cycle)
        (word-append (suc k ^ n) x.stem (copies (length colours) x.cycle) stem_letters
        (word-copies (suc k ^ n) (length colours) x.cycle cycle_letters)) ∙ ap state (sym t.is_bound))

    means : (slice_index colours (state t.bound) ≡ 1) ↔ holds (Atom kind a) (numerators (suc k) n x) (denominator (suc k) x)
    means = gap_means kind k n a rows colours state g x t

pub bounds_tell : (kind : Comparison) (a : Linear) (r n : ℕ) (rows colours : List ℕ) (state : ℤ → ℕ) → 2 ≤ r
    → IsBoundGraph kind a.terms r n rows colours state → (x : Lasso) → IsLasso r n x
    → IsTrue (nat_eq (slice_index colours
    (go rows (r ^ n) (state (a.constant -ℤ total a.terms (values r n x.sign x.whole))) (x.stem ++ copies (length colours) x.cycle))) 1)
    ↔ holds (Atom kind a) (numerators r n x) (denominator r x)
bounds_tell kind a zero n rows colours state two g x h = absurd (omega (arith, two))
bounds_tell kind a (suc k) n rows colours state two g x h = tells kind a k n rows colours state (omega (arith, two)) g x h
