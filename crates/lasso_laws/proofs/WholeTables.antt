-- The table of whole numbers stands for them: its states 1 and 2 are the bounds 0 and 1 of the graph of bounds of the track itself.
use Rattle.std.proofs.Common.{◌≡◌, ℕ, zero, suc, ◌+◌, ◌-◌, ◌*◌, ◌^◌, ◌<◌, ◌≤◌, List, [], ◌∷◌, ◌++◌, length, arith, refl, ◌∙◌, sym, ap, ap₂, subst}
use Rattle.std.proofs.Common.{length-append}
use Rattle.std.proofs.Math.IntN.{ℤ, pos, negsuc, ◌+ℤ◌, ◌-ℤ◌, ◌*ℤ◌, pos-*ℤ-pos, negsuc-*ℤ-pos}
use Rattle.std.proofs.Math.Nat.{pow-suc}
use Rattle.std.specs.Prelude.{◌≤ℤ◌, ◌<ℤ◌, ◌↔◌, IsTrue, nat_eq, if◌then◌else◌, slice_index}
use Rattle.std.specs.List.{AllByRecursion, slice_index_or}
use Rattle.std.proofs.lemmas.Int.{ints}
use Rattle.std.proofs.lemmas.Bool.{cases_eq, eq-eqb, ne_eqb, cond-true, cond-false}
use Rattle.std.proofs.lemmas.List.Elements.{recursion_from_All}
use mathlib.Core.Logic.{◌⊎◌, inl, inr}
use Rattle.integer_laws.specs.Differences.{diff}
use Rattle.integer_laws.specs.Vectors.{vector}
use Rattle.integer_laws.proofs.Ring.{diff_same, diff_add, diff_mul, diff_sub, by_diff, pos_diff, times_one}
use Rattle.integer_laws.proofs.Entries.{entry-vector}
use Rattle.graph_laws.specs.Walks.{go, copies}
use Rattle.lash_model.specs.Letters.{digit}
use Rattle.lash_model.specs.Words.{spelled, value, values}
use Rattle.lash_model.specs.Lassos.{Lasso, IsLasso, denominator, numerator, numerators}
use Rattle.lash_model.specs.Formulas.{Linear, coefficient_sum, Equal}
use Rattle.lash_model.specs.Meaning.{total, holds}
use Rattle.lash_model.specs.Tables.{Table, letters, fracs}
use Rattle.lash_model.specs.Acceptance.{accepts_lasso, frac_state}
use Rattle.lash_model.specs.Standing.{StandsForMixed}
use Rattle.threshold_laws.specs.Thresholds.{letter_total}
use Rattle.lash_model.proofs.Digits.{power_positive}
use Rattle.lash_model.proofs.Numbers.{spelled_below}
use Rattle.part_laws.specs.Graphs.{Reaches, IsWeak}
use Rattle.lasso_laws.specs.Windows.{lowest, window_end, next_bound, IsBoundGraph}
use Rattle.lasso_laws.specs.WholeNumbers.{whole_at, zeros_state, last_state, IsWholeTable}
use Rattle.lasso_laws.proofs.Letters.{digit_below}
use Rattle.lasso_laws.proofs.Gaps.{none_times}
use Rattle.lasso_laws.proofs.WindowAtoms.{bounds_tell, yes_is, is_yes}
use Rattle.part_laws.proofs.Walking.{word-append, word-copies}
use Rattle.lasso_laws.proofs.Moves.{length-copies}

-- ---- the one term: the track itself
track_terms : ℕ → List (ℕ × ℤ)
track_terms track = (track, pos 1) ∷ []

once : (x : ℤ) → (pos 1 *ℤ x) +ℤ pos 0 ≡ x
once x = by_diff (λ x. (pos 1 *ℤ x) +ℤ pos 0 ≡ x) (λ p q. simp (pos_diff, diff_add, diff_mul) (diff_same _ _ _ _ (omega arith))) x

total_track : (track : ℕ) (ns : List ℤ) → total (track_terms track) ns ≡ slice_index_or ns track (pos 0)
unfolding total track_terms
total_track track ns = once (slice_index_or ns track (pos 0))

letter_track : (r n track l : ℕ) → track < n → letter_total (track_terms track) r n l ≡ pos (digit r n track l)
unfolding letter_total
letter_track r n track l h = total_track track (vector (λ i. pos (digit r n i l)) n) ∙ entry-vector (λ i. pos (digit r n i l)) n track h

-- the state of a bound
bound_state : ℤ → ℕ
bound_state (pos zero) = 1
bound_state (pos (suc zero)) = 2
bound_state (pos (suc (suc n))) = 3
bound_state (negsuc n) = 3

track_lowest : (track : ℕ) → lowest (track_terms track) ≡ pos 0
unfolding lowest track_terms
track_lowest track = refl

track_end : (track : ℕ) → window_end Equal (track_terms track) ≡ pos 2
unfolding lowest track_terms coefficient_sum
track_end track = refl

when_same : (d k a b : ℕ) → d ≡ k → (if nat_eq d k then a else b) ≡ a
when_same d k a b e = cond-true (nat_eq d k) a b (eq-eqb d k e)

when_other : (d k a b : ℕ) → (d ≡ k → ⊥) → (if nat_eq d k then a else b) ≡ b
when_other d k a b e = cond-false (nat_eq d k) a b (ne_eqb d k e)

-- what a digit leads to from the bounds 0 and 1
zero_next : (r d : ℕ) (x : ℤ) → x ≡ pos d → bound_state ((pos r *ℤ pos 0) -ℤ x) ≡ zeros_state d
unfolding bound_state
zero_next r zero x e = ap bound_state (lowered r x e) ∙ sym (when_same zero 0 1 3 refl)
  where
    lowered : (r : ℕ) (x : ℤ) → x ≡ pos 0 → (pos r *ℤ pos 0) -ℤ x ≡ pos 0
    lowered r x e = omega (arith, ints, e, none_times r)
zero_next r (suc d) x e = ap bound_state (lowered r x e) ∙ sym (when_other (suc d) 0 1 3 (λ i. absurd (omega (arith, i))))
  where
    lowered : (r : ℕ) (x : ℤ) → x ≡ pos (suc d) → (pos r *ℤ pos 0) -ℤ x ≡ negsuc d
    lowered r x e = omega (arith, ints, e, none_times r)

one_next : (r d : ℕ) (x : ℤ) → d < r → x ≡ pos d → bound_state ((pos r *ℤ pos 1) -ℤ x) ≡ last_state r d
unfolding bound_state
one_next r d x h e = by (cases_eq d (r - 1))
  where
    rest : (n : ℕ) → r ≡ d + n → (pos r *ℤ pos 1) -ℤ x ≡ pos n
    rest n i = omega (arith, ints, e, times_one (pos r), i)

    by : (d ≡ r - 1) ⊎ (d ≡ r - 1 → ⊥) → bound_state ((pos r *ℤ pos 1) -ℤ x) ≡ last_state r d
    by (inl same) = ap bound_state (rest (suc zero) (left same)) ∙ sym (when_same d (r - 1) 2 3 same)
      where
        left : d ≡ r - 1 → r ≡ d + suc zero
        left s = omega (arith, s, h)
    by (inr other) = ap bound_state (rest (suc (suc (r - d - 2))) (left other)) ∙ sym (when_other d (r - 1) 2 3 other)
      where
        left : (d ≡ r - 1 → ⊥) → r ≡ d + suc (suc (r - d - 2))
        left o = omega (arith, o, h)

-- ---- the graph of bounds
inside_cases : (x : ℤ) → (pos 0) ≤ℤ x → x <ℤ pos 2 → (x ≡ pos 0) ⊎ (x ≡ pos 1)
inside_cases (pos zero) h k = inl refl
inside_cases (pos (suc zero)) h k = inr refl
inside_cases (pos (suc (suc n))) h k = absurd (omega (arith, ints, k))
inside_cases (negsuc n) h k = absurd (omega (arith, ints, h))

above_three : (x : ℤ) → (pos 2) ≤ℤ x → bound_state x ≡ 3
unfolding bound_state
above_three (pos zero) h = absurd (omega (arith, ints, h))
above_three (pos (suc zero)) h = absurd (omega (arith, ints, h))
above_three (pos (suc (suc n))) h = refl
above_three (negsuc n) h = refl

below_three : (x : ℤ) → x <ℤ pos 0 → bound_state x ≡ 3
unfolding bound_state
below_three (pos n) h = absurd (omega (arith, ints, h))
below_three (negsuc n) h = refl

few_terms : (track m : ℕ) → m ≡ 4 → coefficient_sum (track_terms track) < m
unfolding coefficient_sum track_terms
few_terms track m e = omega (arith, e)

track_graph : (r n track : ℕ) (t : Table) → 0 < r → track < n → IsWholeTable r n track t
    → IsBoundGraph Equal (track_terms track) r n t.frac_rows t.colours bound_state
unfolding bound_state
track_graph r n track t some lt w = record {
  enough = few_terms track (length t.colours) (ap length w.colours);
  inside = λ x l low high h. inside x l (inside_cases x (subst (λ z. z ≤ℤ x) (track_lowest track) low) (subst (λ z. x <ℤ z) (track_end track) high)) h;
  above = λ x y a b. beyond x a ∙ sym (beyond y b);
  below = λ x y a b. under x a ∙ sym (under y b);
  above_stays = λ x l a h. stays x l (beyond x a) h;
  below_stays = λ x l a h. stays x l (under x a) h;
  inside_yes = λ x low high. colour_in x (inside_cases x (subst (λ z. z ≤ℤ x) (track_lowest track) low) (subst (λ z. x <ℤ z) (track_end track) high));
  above_is = λ x a. ap (slice_index t.colours) (beyond x a) ∙ ap (λ cs. slice_index cs 3) w.colours;
  below_no = λ x a. ap (slice_index t.colours) (under x a) ∙ ap (λ cs. slice_index cs 3) w.colours;
}
  where
    beyond : (x : ℤ) → (window_end Equal (track_terms track)) ≤ℤ x → bound_state x ≡ 3
    beyond x a = above_three x (subst (λ z. z ≤ℤ x) (track_end track) a)

    under : (x : ℤ) → x <ℤ lowest (track_terms track) → bound_state x ≡ 3
    under x a = below_three x (subst (λ z. x <ℤ z) (track_lowest track) a)

    stays : (x : ℤ) (l : ℕ) → bound_state x ≡ 3 → l < r ^ n → slice_index t.frac_rows (bound_state x * r ^ n + l) ≡ bound_state x
    stays x l e h = ap (λ q. slice_index t.frac_rows (q * r ^ n + l)) e ∙ w.sink l h ∙ sym e

    d : ℕ → ℕ
    d l = digit r n track l

    total_is : (l : ℕ) → letter_total (track_terms track) r n l ≡ pos (d l)
    total_is l = letter_track r n track l lt

    inside : (x : ℤ) (l : ℕ) → (x ≡ pos 0) ⊎ (x ≡ pos 1) → l < r ^ n
        → slice_index t.frac_rows (bound_state x * r ^ n + l) ≡ bound_state (next_bound (track_terms track) r n x l)
    inside x l (inl e) h = ap (λ z. slice_index t.frac_rows (bound_state z * r ^ n + l)) e ∙ w.zeros l h
        ∙ sym (zero_next r (d l) (letter_total (track_terms track) r n l) (total_is l))
        ∙ ap (λ z. bound_state (next_bound (track_terms track) r n z l)) (sym e)
    inside x l (inr e) h = ap (λ z. slice_index t.frac_rows (bound_state z * r ^ n + l)) e ∙ w.last l h
        ∙ sym (one_next r (d l) (letter_total (track_terms track) r n l) (digit_below r n track l some lt h) (total_is l))
        ∙ ap (λ z. bound_state (next_bound (track_terms track) r n z l)) (sym e)

    colour_in : (x : ℤ) → (x ≡ pos 0) ⊎ (x ≡ pos 1) → slice_index t.colours (bound_state x) ≡ 1
    colour_in x (inl e) = ap (λ z. slice_index t.colours (bound_state z)) e ∙ ap (λ cs. slice_index cs 1) w.colours
    colour_in x (inr e) = ap (λ z. slice_index t.colours (bound_state z)) e ∙ ap (λ cs. slice_index cs 2) w.colours

-- ---- from the state at the point the run goes to that of the bound 0 or 1 with the first letter
sink_stays : (r n track : ℕ) (t : Table) → IsWholeTable r n track t → (w : List ℕ) → AllByRecursion (λ l. l < r ^ n) w → go t.frac_rows (r ^ n) 3 w ≡ 3
sink_stays r n track t h [] a = refl
sink_stays r n track t h (l ∷ w) a = ap (λ q. go t.frac_rows (r ^ n) q w) (h.sink l a.0) ∙ sink_stays r n track t h w a.1

-- the colours after a word that is not empty, from the states 0, 1 and 2
record Tells (r n : ℕ) (t : Table) (w : List ℕ) : Type 0 where
  from_start : slice_index t.colours (go t.frac_rows (r ^ n) 0 w) ≡ 1
      → (slice_index t.colours (go t.frac_rows (r ^ n) 1 w) ≡ 1) ⊎ (slice_index t.colours (go t.frac_rows (r ^ n) 2 w) ≡ 1)
  from_zeros : slice_index t.colours (go t.frac_rows (r ^ n) 1 w) ≡ 1 → slice_index t.colours (go t.frac_rows (r ^ n) 0 w) ≡ 1
  from_last : slice_index t.colours (go t.frac_rows (r ^ n) 2 w) ≡ 1 → slice_index t.colours (go t.frac_rows (r ^ n) 0 w) ≡ 1

tells : (r n track : ℕ) (t : Table) → 2 ≤ r → IsWholeTable r n track t → (l : ℕ) (w : List ℕ) → AllByRecursion (λ l. l < r ^ n) (l ∷ w) → Tells r n t (l ∷ w)
tells r n track t two h l w a = by (cases_eq d 0) (cases_eq d (r - 1))
  where
    d : ℕ
    d = digit r n track l

    after : ℕ → ℕ → ℕ
    after q p = slice_index t.colours (go t.frac_rows (r ^ n) (slice_index t.frac_rows (q * r ^ n + l)) w)

    seen : (q p : ℕ) → slice_index t.frac_rows (q * r ^ n + l) ≡ p
        → slice_index t.colours (go t.frac_rows (r ^ n) q (l ∷ w)) ≡ slice_index t.colours (go t.frac_rows (r ^ n) p w)
    seen q p e = ap (λ x. slice_index t.colours (go t.frac_rows (r ^ n) x w)) e

    dead : (q : ℕ) → slice_index t.frac_rows (q * r ^ n + l) ≡ 3 → slice_index t.colours (go t.frac_rows (r ^ n) q (l ∷ w)) ≡ 1 → ⊥
    dead q e yes_there = absurd (omega
        (arith, yes_there, seen q 3 e, ap (slice_index t.colours) (sink_stays r n track t h w a.1), ap (λ cs. slice_index cs 3) h.colours))

    by : (d ≡ 0) ⊎ (d ≡ 0 → ⊥) → (d ≡ r - 1) ⊎ (d ≡ r - 1 → ⊥) → Tells r n t (l ∷ w)
    by (inl e) k =
        let first : slice_index t.frac_rows (0 * r ^ n + l) ≡ 1 = h.start l a.0 ∙ when_same d 0 1 (if nat_eq d (r - 1) then 2 else 3) e in
        let zeros : slice_index t.frac_rows (1 * r ^ n + l) ≡ 1 = h.zeros l a.0 ∙ when_same d 0 1 3 e in
        let last : slice_index t.frac_rows (2 * r ^ n + l) ≡ 3 = h.last l a.0 ∙ when_other d (r - 1) 2 3 (λ s. absurd (omega (arith, s, e, two))) in
        record {
          from_start = λ c. inl (seen 1 1 zeros ∙ sym (seen 0 1 first) ∙ c);
          from_zeros = λ c. seen 0 1 first ∙ sym (seen 1 1 zeros) ∙ c;
          from_last = λ c. absurd (dead 2 last c);
        }
    by (inr o) (inl e) =
        let first : slice_index t.frac_rows (0 * r ^ n + l) ≡ 2 = h.start l a.0 ∙ when_other d 0 1 (if nat_eq d (r - 1) then 2 else 3) o
        ∙ when_same d (r - 1) 2 3 e in
        let zeros : slice_index t.frac_rows (1 * r ^ n + l) ≡ 3 = h.zeros l a.0 ∙ when_other d 0 1 3 o in
        let last : slice_index t.frac_rows (2 * r ^ n + l) ≡ 2 = h.last l a.0 ∙ when_same d (r - 1) 2 3 e in
        record {
          from_start = λ c. inr (seen 2 2 last ∙ sym (seen 0 2 first) ∙ c);
          from_zeros = λ c. absurd (dead 1 zeros c);
          from_last = λ c. seen 0 2 first ∙ sym (seen 2 2 last) ∙ c;
        }
    by (inr o) (inr p) =
        let first : slice_index t.frac_rows (0 * r ^ n + l) ≡ 3 = h.start l a.0 ∙ when_other d 0 1 (if nat_eq d (r - 1) then 2 else 3) o
        ∙ when_other d (r - 1) 2 3 p in
        let zeros : slice_index t.frac_rows (1 * r ^ n + l) ≡ 3 = h.zeros l a.0 ∙ when_other d 0 1 3 o in
        let last : slice_index t.frac_rows (2 * r ^ n + l) ≡ 3 = h.last l a.0 ∙ when_other d (r - 1) 2 3 p in
        record {
          from_start = λ c. absurd (dead 0 first c);
          from_zeros = λ c. absurd (dead 1 zeros c);
          from_last = λ c. absurd (dead 2 last c);
        }

tells_any : (r n track : ℕ) (t : Table) → 2 ≤ r → IsWholeTable r n track t → (w : List ℕ) → 0 < length w → AllByRecursion (λ l. l < r ^ n) w → Tells r n t w
tells_any r n track t two h [] some a = absurd (omega (arith, some))
tells_any r n track t two h (l ∷ w) some a = tells r n track t two h l w a

-- ---- a multiple of the denominator is the value's, or that of the value and one
multiple_cases : (j : ℤ) (d x : ℕ) → 0 < d → x ≤ d → j *ℤ pos d ≡ pos x → (j ≡ pos 0) ⊎ (j ≡ pos 1)
multiple_cases (pos zero) d x h k e = inl refl
multiple_cases (pos (suc zero)) d x h k e = inr refl
multiple_cases (pos (suc (suc n))) d x h k e = absurd (omega (arith, ints, e, pos-*ℤ-pos (suc (suc n)) d, k, h, twice n d))
  where
    twice : (n d : ℕ) → d + d ≤ suc (suc n) * d
    twice n d = grind arith
multiple_cases (negsuc n) d x h k e = absurd (omega (arith, ints, e, negsuc-*ℤ-pos n d, positive n d h))
  where
    positive : (n d : ℕ) → 0 < d → 0 < suc n * d
    positive n d h = grind arith

-- what is after the point is at most the denominator
behind_point : (p k s c : ℕ) → s < p → c ≤ k → k * s + c ≤ p * k
behind_point p k s c h i = grind arith

fraction_part_below : (r n i : ℕ) (x : Lasso) → 2 ≤ r → i < n → IsLasso r n x
    → (r ^ length x.cycle - 1) * spelled r n i x.stem + spelled r n i x.cycle ≤ denominator r x
unfolding denominator
fraction_part_below r n i x two h o = behind_point (r ^ length x.stem) (r ^ length x.cycle - 1) (spelled r n i x.stem) (spelled r n i x.cycle)
    (spelled_below r n i x.stem (omega (arith, two)) h (recursion_from_All (λ l. l < r ^ n) x.stem o.stem))
    (less (spelled r n i x.cycle) (r ^ length x.cycle)
    (spelled_below r n i x.cycle (omega (arith, two)) h (recursion_from_All (λ l. l < r ^ n) x.cycle o.cycle)))
  where
    less : (a b : ℕ) → a < b → a ≤ b - 1
    less a b h = omega (arith, h)

denominator_positive : (r n : ℕ) (x : Lasso) → 2 ≤ r → IsLasso r n x → 0 < denominator r x
unfolding denominator
denominator_positive r n x two o = positive (r ^ length x.stem) (r ^ length x.cycle) (power_positive r (length x.stem) (omega (arith, two)))
    (big (length x.cycle) o.turns)
  where
    positive : (a b : ℕ) → 0 < a → 2 ≤ b → 0 < a * (b - 1)
    positive a b h k = times a (b - 1) h (omega (arith, k))
      where
        times : (a b : ℕ) → 0 < a → 0 < b → 0 < a * b
        times a b h k = grind arith

    product : (a r : ℕ) → 2 ≤ r → 1 ≤ a → 2 ≤ a * r
    product a r h k = grind arith

    big : (m : ℕ) → 0 < m → 2 ≤ r ^ m
    big zero h = absurd (omega (arith, h))
    big (suc m) h = rw (pow-suc r m) (product (r ^ m) r two (power_positive r m (omega (arith, two))))

whole_cases : (r n i : ℕ) (x : Lasso) → 2 ≤ r → i < n → IsLasso r n x → (m : ℤ) → numerator r n i x ≡ m *ℤ pos (denominator r x)
    → (numerator r n i x ≡ value r n i x.sign x.whole *ℤ pos (denominator r x)) ⊎
    (numerator r n i x ≡ (value r n i x.sign x.whole +ℤ pos 1) *ℤ pos (denominator r x))
unfolding numerator
whole_cases r n i x two h o m e =
    by (multiple_cases (m -ℤ v) d f (denominator_positive r n x two o) (fraction_part_below r n i x two h o) (apart m v d f (sym e)))
  where
    v : ℤ
    v = value r n i x.sign x.whole

    d : ℕ
    d = denominator r x

    f : ℕ
    f = (r ^ length x.cycle - 1) * spelled r n i x.stem + spelled r n i x.cycle

    less_times : (m v : ℤ) (d : ℕ) → (m -ℤ v) *ℤ pos d ≡ (m *ℤ pos d) -ℤ (pos d *ℤ v)
    less_times m v d = by_diff (λ m. (m -ℤ v) *ℤ pos d ≡ (m *ℤ pos d) -ℤ (pos d *ℤ v))
        (λ p q. by_diff (λ v. (diff p q -ℤ v) *ℤ pos d ≡ (diff p q *ℤ pos d) -ℤ (pos d *ℤ v))
        (λ s t. simp (pos_diff, diff_sub, diff_mul) (diff_same _ _ _ _ (omega arith))) v) m

    apart : (m v : ℤ) (d f : ℕ) → m *ℤ pos d ≡ (pos d *ℤ v) +ℤ pos f → (m -ℤ v) *ℤ pos d ≡ pos f
    apart m v d f e = omega (arith, ints, less_times m v d, e)

    by : (m -ℤ v ≡ pos 0) ⊎ (m -ℤ v ≡ pos 1) → ((pos d *ℤ v) +ℤ pos f ≡ v *ℤ pos d) ⊎ ((pos d *ℤ v) +ℤ pos f ≡ (v +ℤ pos 1) *ℤ pos d)
    by (inl a) = inl (e ∙ ap (λ z. z *ℤ pos d) (same m v a))
      where
        same : (m v : ℤ) → m -ℤ v ≡ pos 0 → m ≡ v
        same m v a = omega (arith, ints, a)
    by (inr a) = inr (e ∙ ap (λ z. z *ℤ pos d) (next m v a))
      where
        next : (m v : ℤ) → m -ℤ v ≡ pos 1 → m ≡ v +ℤ pos 1
        next m v a = omega (arith, ints, a)

-- ---- the theorem
-- the integer part stays at its one state
int_stays : (r n track : ℕ) (t : Table) → IsWholeTable r n track t → (w : List ℕ) → AllByRecursion (λ l. l < r ^ n) w → go t.rows (r ^ n) 0 w ≡ 0
int_stays r n track t h [] a = refl
int_stays r n track t h (l ∷ w) a = ap (λ q. go t.rows (r ^ n) q w) (h.rows l a.0) ∙ int_stays r n track t h w a.1

entered_at : (r n track : ℕ) (t : Table) → IsWholeTable r n track t → (sign : ℕ) (w : List ℕ) → sign < 2 ^ n → AllByRecursion (λ l. l < r ^ n) w
    → slice_index t.outs (go t.rows (r ^ n) (slice_index t.roots sign) w) ≡ 0
entered_at r n track t h sign w s a = ap (λ q. slice_index t.outs (go t.rows (r ^ n) q w)) (h.roots sign s)
    ∙ ap (slice_index t.outs) (int_stays r n track t h w a) ∙ ap (λ outs. slice_index outs 0) h.outs

-- from the bound c less the value, the run tells whether the number is c
tells_number : (r n track : ℕ) (t : Table) → 2 ≤ r → track < n → IsWholeTable r n track t → (x : Lasso) → IsLasso r n x → (c : ℤ) (q : ℕ)
    → bound_state (c -ℤ value r n track x.sign x.whole) ≡ q
    → (slice_index t.colours (go t.frac_rows (r ^ n) q (x.stem ++ copies (length t.colours) x.cycle)) ≡ 1)
    ↔ (numerator r n track x ≡ c *ℤ pos (denominator r x))
unfolding holds
tells_number r n track t two lt h x o c q at = (
  λ e. sym number_is ∙ told.0 (is_yes _ (ap (λ p. slice_index t.colours (go t.frac_rows (r ^ n) p word)) there ∙ e)),
  λ e. ap
      (λ p. slice_index t.colours (go t.frac_rows (r ^ n) p word)) (sym there) ∙ yes_is _ (told.1 (number_is ∙ e)),
)
  where
    word : List ℕ
    word = x.stem ++ copies (length t.colours) x.cycle

    a : Linear
    a = record { terms = track_terms track; constant = c }

    told : IsTrue (nat_eq (slice_index t.colours (go t.frac_rows (r ^ n) (bound_state (c -ℤ total (track_terms track) (values r n x.sign x.whole))) word))
        1) ↔ (total (track_terms track) (numerators r n x) ≡ c *ℤ pos (denominator r x))
    told = bounds_tell Equal a r n t.frac_rows t.colours bound_state two (track_graph r n track t (omega (arith, two)) lt h) x o

    there : bound_state (c -ℤ total (track_terms track) (values r n x.sign x.whole)) ≡ q
    there = ap (λ z. bound_state (c -ℤ z)) (total_track track (values r n x.sign x.whole) ∙ entry-vector (λ i. value r n i x.sign x.whole) n track lt) ∙ at

    number_is : total (track_terms track) (numerators r n x) ≡ numerator r n track x
    number_is = total_track track (numerators r n x) ∙ entry-vector (λ i. numerator r n i x) n track lt

zero_state : (v : ℤ) → bound_state (v -ℤ v) ≡ 1
unfolding bound_state
zero_state v = ap bound_state (nothing v)
  where
    nothing : (v : ℤ) → v -ℤ v ≡ pos 0
    nothing v = omega (arith, ints)

one_state : (v : ℤ) → bound_state ((v +ℤ pos 1) -ℤ v) ≡ 2
unfolding bound_state
one_state v = ap bound_state (one v)
  where
    one : (v : ℤ) → (v +ℤ pos 1) -ℤ v ≡ pos 1
    one v = omega (arith, ints)

whole_accepts : (r n track : ℕ) (t : Table) → 2 ≤ r → track < n → IsWholeTable r n track t → (x : Lasso) → IsLasso r n x
    → (slice_index t.colours (go t.frac_rows (r ^ n) 0 (x.stem ++ copies (length t.colours) x.cycle)) ≡ 1)
    ↔ ((m : ℤ) × (numerator r n track x ≡ m *ℤ pos (denominator r x)))
whole_accepts r n track t two lt h x o = (λ e. found (ends.from_start e), λ m. back (whole_cases r n track x two lt o m.0 m.1))
  where
    v : ℤ
    v = value r n track x.sign x.whole

    word : List ℕ
    word = x.stem ++ copies (length t.colours) x.cycle

    cycle_in : AllByRecursion (λ l. l < r ^ n) x.cycle
    cycle_in = recursion_from_All (λ l. l < r ^ n) x.cycle o.cycle

    ends : Tells r n t word
    ends = tells_any r n track t two h word (some (length x.stem) (length x.cycle) (length t.colours) o.turns (ap length h.colours))
        (word-append (r ^ n) x.stem (copies (length t.colours) x.cycle) (recursion_from_All (λ l. l < r ^ n) x.stem o.stem)
        (word-copies (r ^ n) (length t.colours) x.cycle cycle_in))
      where
        some : (s c m : ℕ) → 0 < c → m ≡ 4 → 0 < length word
        some s c m i e = omega (
          arith,
          length-append x.stem (copies (length t.colours) x.cycle),
          length-copies (length t.colours) x.cycle,
          times
              (length t.colours) (length x.cycle) (ap length h.colours) o.turns,
        )
          where
            times : (m c : ℕ) → m ≡ 4 → 0 < c → 0 < m * c
            times m c e i = rw e (omega (arith, i))

    zeros : (slice_index t.colours (go t.frac_rows (r ^ n) 1 word) ≡ 1) ↔ (numerator r n track x ≡ v *ℤ pos (denominator r x))
    zeros = tells_number r n track t two lt h x o v 1 (zero_state v)

    last : (slice_index t.colours (go t.frac_rows (r ^ n) 2 word) ≡ 1) ↔ (numerator r n track x ≡ (v +ℤ pos 1) *ℤ pos (denominator r x))
    last = tells_number r n track t two lt h x o (v +ℤ pos 1) 2 (one_state v)

    found : (slice_index t.colours (go t.frac_rows (r ^ n) 1 word) ≡ 1) ⊎ (slice_index t.colours (go t.frac_rows (r ^ n) 2 word) ≡ 1) → (m : ℤ)
        × (numerator r n track x ≡ m *ℤ pos (denominator r x))
    found (inl e) = (v, zeros.0 e)
    found (inr e) = (v +ℤ pos 1, last.0 e)

    back : (numerator r n track x ≡ v *ℤ pos (denominator r x)) ⊎ (numerator r n track x ≡ (v +ℤ pos 1) *ℤ pos (denominator r x))
        → slice_index t.colours (go t.frac_rows (r ^ n) 0 word) ≡ 1
    back (inl e) = ends.from_zeros (zeros.1 e)
    back (inr e) = ends.from_last (last.1 e)

pub whole_stands : (r n track : ℕ) (t : Table) → 2 ≤ r → track < n → IsWholeTable r n track t → StandsForMixed t (whole_at track)
whole_stands r n track t two lt h = record {
  fractions = omega (arith, ap length h.colours);
  each = λ x i. each x (subst (λ b. IsLasso b n x) h.base (subst (λ m. IsLasso t.base m x) h.tracks i));
}
  where
    shape : letters t ≡ r ^ n
    shape = ap (λ b. b ^ t.tracks) h.base ∙ ap (λ k. r ^ k) h.tracks

    each : (x : Lasso) → IsLasso r n x → IsTrue (accepts_lasso t x) ↔ whole_at track (numerators t.base t.tracks x) (denominator t.base x)
    each x o = (λ e. at_base (said.0 (sym there ∙ yes_is _ e)), λ m. is_yes _ (there ∙ said.1 (from_base m)))
      where
        said : (slice_index t.colours (go t.frac_rows (r ^ n) 0 (x.stem ++ copies (length t.colours) x.cycle)) ≡ 1)
            ↔ ((m : ℤ) × (numerator r n track x ≡ m *ℤ pos (denominator r x)))
        said = whole_accepts r n track t two lt h x o

        there : slice_index t.colours (frac_state t x) ≡ slice_index t.colours (go t.frac_rows (r ^ n) 0 (x.stem ++ copies (length t.colours) x.cycle))
        there = ap (λ k. slice_index t.colours
            (go t.frac_rows k (slice_index t.outs (go t.rows k (slice_index t.roots x.sign) x.whole)) (x.stem ++ copies (fracs t) x.cycle))) shape
            ∙ ap (λ q. slice_index t.colours (go t.frac_rows (r ^ n) q (x.stem ++ copies (fracs t) x.cycle)))
            (entered_at r n track t h x.sign x.whole o.sign (recursion_from_All (λ l. l < r ^ n) x.whole o.whole))

        entry : slice_index_or (numerators t.base t.tracks x) track (pos 0) ≡ numerator r n track x
        entry = ap₂ (λ b m. slice_index_or (numerators b m x) track (pos 0)) h.base h.tracks ∙ entry-vector (λ i. numerator r n i x) n track lt

        at_base : (m : ℤ) × (numerator r n track x ≡ m *ℤ pos (denominator r x)) → whole_at track (numerators t.base t.tracks x) (denominator t.base x)
        at_base m = (m.0, entry ∙ m.1 ∙ ap (λ b. m.0 *ℤ pos (denominator b x)) (sym h.base))

        from_base : whole_at track (numerators t.base t.tracks x) (denominator t.base x) → (m : ℤ) × (numerator r n track x ≡ m *ℤ pos (denominator r x))
        from_base m = (m.0, sym entry ∙ m.1 ∙ ap (λ b. m.0 *ℤ pos (denominator b x)) h.base)

-- ---- weak: the one state of colour no leads to itself alone
colour_cases : (cs : List ℕ) (q : ℕ) → cs ≡ 1 ∷ 1 ∷ 1 ∷ 0 ∷ [] → q < length cs → (slice_index cs q ≡ 1) ⊎ (q ≡ 3)
colour_cases cs zero e h = inl (ap (λ ds. slice_index ds 0) e)
colour_cases cs (suc zero) e h = inl (ap (λ ds. slice_index ds 1) e)
colour_cases cs (suc (suc zero)) e h = inl (ap (λ ds. slice_index ds 2) e)
colour_cases cs (suc (suc (suc zero))) e h = inr refl
colour_cases cs (suc (suc (suc (suc q)))) e h = absurd (omega (arith, h, ap length e))

pub whole_weak : (r n track : ℕ) (t : Table) → IsWholeTable r n track t → IsWeak (r ^ n) (record { rows = t.frac_rows; colours = t.colours })
whole_weak r n track t h p q kp kq lp lq one = by (colour_cases t.colours p h.colours kp) (colour_cases t.colours q h.colours kq)
  where
    led : (p q : ℕ) → p ≡ 3 → Reaches t.frac_rows (r ^ n) p q → p ≡ q
    led p q e s = e ∙ sym (sink_stays r n track t h s.word s.letters) ∙ ap (λ x. go t.frac_rows (r ^ n) x s.word) (sym e) ∙ s.leads

    by : (slice_index t.colours p ≡ 1) ⊎ (p ≡ 3) → (slice_index t.colours q ≡ 1) ⊎ (q ≡ 3) → slice_index t.colours p ≡ slice_index t.colours q
    by (inl a) (inl b) = a ∙ sym b
    by (inr a) b = ap (slice_index t.colours) (led p q a one.there)
    by (inl a) (inr b) = ap (slice_index t.colours) (sym (led q p b one.back))
