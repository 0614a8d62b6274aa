-- The run of bounds, and its gap: a term's total over a lasso's numerators against a constant is the numerator of the run of bounds.
use Rattle.std.proofs.Common.{◌≡◌, ℕ, zero, suc, ◌+◌, ◌*◌, ◌-◌, ◌^◌, ◌<◌, List, [], ◌∷◌, ◌++◌, length, map, arith, refl, ◌∙◌, sym, ap, ap₂, length-append}
use Rattle.std.proofs.Math.IntN.{ℤ, pos, neg_ℤ, ◌+ℤ◌, ◌-ℤ◌, ◌*ℤ◌}
use Rattle.std.proofs.Math.Nat.{pow-suc, pow-zero}
use Rattle.std.specs.Prelude.{slice_index, ◌≤ℤ◌}
use Rattle.std.specs.List.{AllByRecursion}
use Rattle.std.proofs.lemmas.Int.{ints}
use Rattle.std.proofs.lemmas.Nat.{pow-add}
use Rattle.std.proofs.lemmas.List.{map-append}
use Rattle.integer_laws.specs.Differences.{diff}
use Rattle.integer_laws.specs.Runs.{run, gain}
use Rattle.integer_laws.proofs.Ring.{diff_same, diff_add, diff_sub, diff_mul, by_diff, pos_diff}
use Rattle.integer_laws.proofs.Reading.{run-append}
use Rattle.graph_laws.specs.Walks.{go, copies}
use Rattle.lash_model.specs.Letters.{sign_bit}
use Rattle.lash_model.specs.Words.{value, values, track_digits}
use Rattle.lash_model.specs.Lassos.{Lasso, denominator, numerator, numerators}
use Rattle.lash_model.specs.Formulas.{coefficient_sum}
use Rattle.lash_model.specs.Meaning.{total}
use Rattle.threshold_laws.specs.Thresholds.{letter_total, sign_total}
use Rattle.lash_model.proofs.Digits.{power_positive}
use Rattle.lash_model.proofs.WordValues.{value_is_run, track_digits-append}
use Rattle.lash_model.proofs.Points.{numerator_is_gain}
use Rattle.threshold_laws.proofs.ValueTotals.{total_combined, total_of_values}
use Rattle.lasso_laws.proofs.Moving.{tours}
use Rattle.lasso_laws.proofs.Gaps.{Held}
use Rattle.lasso_laws.proofs.Letters.{side_low, side_high}
use Rattle.lasso_laws.specs.Windows.{lowest}

-- ---- the total of the numerators is the gain of the letters' totals
numerator_by_values : (r n i : ℕ) (x : Lasso) → 0 < r
    → value r n i x.sign ((x.whole ++ x.stem) ++ x.cycle) ≡ (pos 1 *ℤ numerator r n i x) +ℤ value r n i x.sign (x.whole ++ x.stem)
unfolding gain
numerator_by_values r n i x h =
    value_is_run r n i x.sign ((x.whole ++ x.stem) ++ x.cycle)
    ∙ ap (run r (diff 0 (sign_bit n i x.sign))) (track_digits-append r n i (x.whole ++ x.stem) x.cycle)
    ∙ telescoped (run r (diff 0 (sign_bit n i x.sign)) (track_digits r n i (x.whole ++ x.stem) ++ track_digits r n i x.cycle))
    (run r (diff 0 (sign_bit n i x.sign)) (track_digits r n i (x.whole ++ x.stem)))
    ∙ ap₂ (λ a b. (pos 1 *ℤ a) +ℤ b) (sym (numerator_is_gain r n i x h)) (sym (value_is_run r n i x.sign (x.whole ++ x.stem)))
  where
    once : (x : ℤ) → pos 1 *ℤ x ≡ x
    once x = by_diff (λ x. pos 1 *ℤ x ≡ x) (λ p q. simp (pos_diff, diff_mul) (diff_same _ _ _ _ (omega arith))) x

    telescoped : (x y : ℤ) → x ≡ (pos 1 *ℤ (x -ℤ y)) +ℤ y
    telescoped x y = omega (arith, ints, once (x -ℤ y))

-- from the total of the whole part's values, over the letters' totals
pub total_of_numerators : (ts : List (ℕ × ℤ)) (r n : ℕ) (x : Lasso) → 0 < r
    → total ts (numerators r n x) ≡ gain r (total ts (values r n x.sign x.whole)) (map (letter_total ts r n) x.stem) (map (letter_total ts r n) x.cycle)
unfolding gain
total_of_numerators ts r n x h = apart (total ts (values r n x.sign ((x.whole ++ x.stem) ++ x.cycle))) (total ts (numerators r n x))
    (total ts (values r n x.sign (x.whole ++ x.stem)))
    (total_combined 1 (λ i. value r n i x.sign ((x.whole ++ x.stem) ++ x.cycle)) (λ i. numerator r n i x) (λ i. value r n i x.sign (x.whole ++ x.stem))
    (λ i. numerator_by_values r n i x h) ts n) ∙ ap₂ (λ a b. a -ℤ b) upto_cycle upto_stem
  where
    f : ℕ → ℤ
    f = letter_total ts r n

    start : ℤ
    start = neg_ℤ (sign_total ts n x.sign)

    once : (x : ℤ) → pos 1 *ℤ x ≡ x
    once x = by_diff (λ x. pos 1 *ℤ x ≡ x) (λ p q. simp (pos_diff, diff_mul) (diff_same _ _ _ _ (omega arith))) x

    apart : (a b c : ℤ) → a ≡ (pos 1 *ℤ b) +ℤ c → b ≡ a -ℤ c
    apart a b c e = omega (arith, ints, e, once b)

    upto_stem : total ts (values r n x.sign (x.whole ++ x.stem)) ≡ run r (total ts (values r n x.sign x.whole)) (map f x.stem)
    upto_stem = total_of_values ts r n x.sign (x.whole ++ x.stem) ∙ ap (run r start) (map-append f x.whole x.stem)
        ∙ run-append r start (map f x.whole) (map f x.stem) ∙ ap (λ y. run r y (map f x.stem)) (sym (total_of_values ts r n x.sign x.whole))

    upto_cycle : total ts (values r n x.sign ((x.whole ++ x.stem) ++ x.cycle)) ≡ run r (total ts (values r n x.sign x.whole)) (map f x.stem ++ map f x.cycle)
    upto_cycle = total_of_values ts r n x.sign ((x.whole ++ x.stem) ++ x.cycle) ∙ ap (run r start) (map-append f (x.whole ++ x.stem) x.cycle)
        ∙ run-append r start (map f (x.whole ++ x.stem)) (map f x.cycle)
        ∙ ap (λ y. run r y (map f x.cycle)) (sym (total_of_values ts r n x.sign (x.whole ++ x.stem)) ∙ upto_stem)
        ∙ sym (run-append r (total ts (values r n x.sign x.whole)) (map f x.stem) (map f x.cycle))

-- ---- the run of b - a is that of b less that of a
less_step : (r : ℕ) (b a f : ℤ) → (pos r *ℤ (b -ℤ a)) +ℤ neg_ℤ f ≡ (pos r *ℤ b) -ℤ ((pos r *ℤ a) +ℤ f)
less_step r b a f = omega (arith, ints, apart r b a)
  where
    apart : (r : ℕ) (b a : ℤ) → pos r *ℤ (b -ℤ a) ≡ (pos r *ℤ b) -ℤ (pos r *ℤ a)
    apart r b a = by_diff (λ b. pos r *ℤ (b -ℤ a) ≡ (pos r *ℤ b) -ℤ (pos r *ℤ a))
        (λ p q. by_diff (λ a. pos r *ℤ (diff p q -ℤ a) ≡ (pos r *ℤ diff p q) -ℤ (pos r *ℤ a))
        (λ s t. simp (pos_diff, diff_sub, diff_mul) (diff_same _ _ _ _ (omega arith))) a) b

pub run_less : (r : ℕ) (b a : ℤ) (f : ℕ → ℤ) (w : List ℕ) → run r (b -ℤ a) (map (λ l. neg_ℤ (f l)) w) ≡ (b *ℤ pos (r ^ length w)) -ℤ run r a (map f w)
unfolding run
run_less r b a f [] = ap (λ y. y -ℤ a) (once b ∙ ap (λ k. b *ℤ pos k) (sym (pow-zero r)))
  where
    once : (b : ℤ) → b ≡ b *ℤ pos 1
    once b = by_diff (λ b. b ≡ b *ℤ pos 1) (λ p q. simp (pos_diff, diff_mul) (diff_same _ _ _ _ (omega arith))) b
run_less r b a f (l ∷ w) = ap (λ y. run r y (map (λ l. neg_ℤ (f l)) w)) (less_step r b a (f l)) ∙ run_less r (pos r *ℤ b) ((pos r *ℤ a) +ℤ f l) f w
    ∙ ap (λ y. y -ℤ run r ((pos r *ℤ a) +ℤ f l) (map f w)) (again r (r ^ length w) b ∙ ap (λ k. b *ℤ pos k) (sym (pow-suc r (length w))))
  where
    again : (r p : ℕ) (b : ℤ) → (pos r *ℤ b) *ℤ pos p ≡ b *ℤ pos (p * r)
    again r p b = by_diff (λ b. (pos r *ℤ b) *ℤ pos p ≡ b *ℤ pos (p * r)) (λ s t. simp (pos_diff, diff_mul) (diff_same _ _ _ _ (omega arith))) b

pub gain_less : (r : ℕ) (b a : ℤ) (f : ℕ → ℤ) (u v : List ℕ) → 0 < r
    → gain r (b -ℤ a) (map (λ l. neg_ℤ (f l)) u) (map (λ l. neg_ℤ (f l)) v) ≡ (b *ℤ pos (r ^ length u * (r ^ length v - 1))) -ℤ gain r a (map f u) (map f v)
unfolding gain
gain_less r b a f u v h = regroup (run r (b -ℤ a) (map g u ++ map g v)) (run r (b -ℤ a) (map g u)) (b *ℤ pos (r ^ length u * r ^ length v))
    (b *ℤ pos (r ^ length u)) (b *ℤ pos (r ^ length u * (r ^ length v - 1))) (run r a (map f u ++ map f v)) (run r a (map f u)) both (run_less r b a f u)
    (parted (r ^ length u) (r ^ length v) (power_positive r (length v) h))
  where
    g : ℕ → ℤ
    g l = neg_ℤ (f l)

    both : run r (b -ℤ a) (map g u ++ map g v) ≡ (b *ℤ pos (r ^ length u * r ^ length v)) -ℤ run r a (map f u ++ map f v)
    both = ap (run r (b -ℤ a)) (sym (map-append g u v)) ∙ run_less r b a f (u ++ v)
        ∙ ap₂ (λ k w. (b *ℤ pos k) -ℤ run r a w) (ap (λ k. r ^ k) (length-append u v) ∙ pow-add r (length u) (length v)) (map-append f u v)

    plain : (b : ℤ) (p q : ℕ) → b *ℤ pos (p * suc q) ≡ (b *ℤ pos (p * q)) +ℤ (b *ℤ pos p)
    plain b p q = by_diff (λ b. b *ℤ pos (p * suc q) ≡ (b *ℤ pos (p * q)) +ℤ (b *ℤ pos p))
        (λ s t. simp (pos_diff, diff_add, diff_mul) (diff_same _ _ _ _ (omega arith))) b

    parted : (p q : ℕ) → 0 < q → b *ℤ pos (p * q) ≡ (b *ℤ pos (p * (q - 1))) +ℤ (b *ℤ pos p)
    parted p q k = ap (λ m. b *ℤ pos (p * m)) (pred q k) ∙ plain b p (q - 1)
      where
        pred : (q : ℕ) → 0 < q → q ≡ suc (q - 1)
        pred q h = omega arith

    regroup : (xy x bk bu d ay a : ℤ) → xy ≡ bk -ℤ ay → x ≡ bu -ℤ a → bk ≡ d +ℤ bu → xy -ℤ x ≡ d -ℤ (ay -ℤ a)
    regroup xy x bk bu d ay a e f g = omega (arith, ints, e, f, g)

-- what the letters do to bounds
unfoldable pub bound_digit : List (ℕ × ℤ) → ℕ → ℕ → ℕ → ℤ
bound_digit ts r n l = neg_ℤ (letter_total ts r n l)

-- the gap of a lasso
pub gap_is : (ts : List (ℕ × ℤ)) (b : ℤ) (r n : ℕ) (x : Lasso) → 0 < r
    → gain r (b -ℤ total ts (values r n x.sign x.whole)) (map (bound_digit ts r n) x.stem)
    (map (bound_digit ts r n) x.cycle) ≡ (b *ℤ pos (denominator r x)) -ℤ total ts (numerators r n x)
unfolding bound_digit denominator
gap_is ts b r n x h = gain_less r b (total ts (values r n x.sign x.whole)) (letter_total ts r n) x.stem x.cycle h
    ∙ ap (λ y. (b *ℤ pos (r ^ length x.stem * (r ^ length x.cycle - 1))) -ℤ y) (sym (total_of_numerators ts r n x h))

-- each letter keeps both sides
pub held : (k n : ℕ) (ts : List (ℕ × ℤ)) (w : List ℕ) → AllByRecursion (λ l. l < suc k ^ n) w
    → Held (suc k) (lowest ts) (lowest ts +ℤ pos (coefficient_sum ts)) (map (bound_digit ts (suc k) n) w)
unfolding Held bound_digit
held k n ts [] h = tt
held k n ts (l ∷ w) h = ((as_sum_high k n l ts (side_high k n l ts h.0), as_sum_low k n l ts (side_low k n l ts h.0)), held k n ts w h.1)
  where
    as_sum_high : (k n l : ℕ) (ts : List (ℕ × ℤ))
        → (lowest ts +ℤ pos (coefficient_sum ts)) ≤ℤ ((pos (suc k) *ℤ (lowest ts +ℤ pos (coefficient_sum ts))) -ℤ letter_total ts (suc k) n l)
        → (lowest ts +ℤ pos (coefficient_sum ts)) ≤ℤ ((pos (suc k) *ℤ (lowest ts +ℤ pos (coefficient_sum ts))) +ℤ neg_ℤ (letter_total ts (suc k) n l))
    as_sum_high k n l ts h = omega (arith, ints, h)

    as_sum_low : (k n l : ℕ) (ts : List (ℕ × ℤ)) → ((pos (suc k) *ℤ lowest ts) -ℤ letter_total ts (suc k) n l) ≤ℤ lowest ts
        → ((pos (suc k) *ℤ lowest ts) +ℤ neg_ℤ (letter_total ts (suc k) n l)) ≤ℤ lowest ts
    as_sum_low k n l ts h = omega (arith, ints, h)

-- the word of a stem and iterations
pub map-copies : (f : ℕ → ℤ) (m : ℕ) (v : List ℕ) → map f (copies m v) ≡ tours m (map f v)
unfolding tours
map-copies f zero v = refl
map-copies f (suc m) v = map-append f v (copies m v) ∙ ap (λ w. map f v ++ w) (map-copies f m v)

pub walk_bounds : (rows : List ℕ) (width r : ℕ) (digit : ℕ → ℤ) (state : ℤ → ℕ)
    → ((x : ℤ) (l : ℕ) → l < width → slice_index rows (state x * width + l) ≡ state ((pos r *ℤ x) +ℤ digit l)) → (x : ℤ) (w : List ℕ)
    → AllByRecursion (λ l. l < width) w → go rows width (state x) w ≡ state (run r x (map digit w))
unfolding run
walk_bounds rows width r digit state h x [] k = refl
walk_bounds rows width r digit state h x (l ∷ w) k = ap (λ q. go rows width q w) (h x l k.0)
    ∙ walk_bounds rows width r digit state h ((pos r *ℤ x) +ℤ digit l) w k.1
