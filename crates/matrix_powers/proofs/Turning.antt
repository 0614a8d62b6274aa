-- The sums of a shift's images, iteration by iteration.
use Rattle.std.proofs.Common.{◌≡◌, ℕ, zero, suc, ◌+◌, ◌*◌, ◌^◌, ◌<◌, ◌≤◌, List, [], ◌∷◌, ◌++◌, length, get_or, replicate, arith, refl, ap, ap₂, ◌∙◌, sym, subst, inl, inr, unsigned_abs}
use Rattle.std.proofs.Math.IntN.{ℤ, pos, ◌+ℤ◌, ◌-ℤ◌, ◌*ℤ◌}
use Rattle.std.proofs.lemmas.Bool.{cases_lt}
use Rattle.std.proofs.lemmas.Int.{ints}
use Rattle.std.proofs.lemmas.List.{length-replicate, get_or-replicate, length-append}
use Rattle.std.proofs.lemmas.List.Elements.{All-get_or}
use Rattle.matrix_powers.specs.Matrices.{Square, IsSquare, entry, sum_below, power_entry}
use Rattle.matrix_powers.specs.Powers.{IsPower}
use Rattle.matrix_powers.specs.Orbits.{IsShift, Route, at_row, carried, shifted}
use Rattle.matrix_powers.specs.Products.{ArePowers, IsSmallPower, IsPowerOf}
use Rattle.matrix_powers.specs.Turns.{IsWithin, IsNextSum, IsSumOf, AreSums, IsOrbit, IsReduced, image_entry}
use Rattle.matrix_powers.proofs.Adding.{sum_suc, sum_same, sum_small, sum_abs}
use Rattle.matrix_powers.proofs.Wrapping.{product_small}
use Rattle.matrix_powers.proofs.Raising.{comes_again, small_before}
use Rattle.matrix_powers.proofs.Searching.{push_each}

pub shift_within : (side : ℕ) (shift : List ℤ) → IsShift side shift → IsWithin (2 ^ 40) shift
shift_within side shift h = record { within = λ row r. All-get_or (λ b. unsigned_abs b ≤ 2 ^ 40) shift row (pos 0) r h.small }

-- the row of a power's image
pub image_is : (a m : Square) (shift : List ℤ) (k row : ℕ) → IsPowerOf a k m → row < a.side → image_entry m shift row ≡ carried a shift k row
image_is a m shift k row is r =
    ap (λ n. sum_below n (λ i. entry m row i *ℤ at_row shift i)) is.same_side
    ∙ sum_same a.side _ _ (λ i inside. ap (λ x. x *ℤ at_row shift i) (is.entries_are row i r inside))

pub carried_small : (a : Square) (shift : List ℤ) (k row : ℕ) → a.side ≤ 4 → IsShift a.side shift → IsSmallPower a k → row < a.side → unsigned_abs (carried a shift k row) ≤ 2 ^ 82
carried_small a shift k row few b small r =
    let each : (i : ℕ) → i < a.side → unsigned_abs (power_entry a k row i *ℤ at_row shift i) ≤ 2 ^ 80 = λ i inside. product_small (power_entry a k row i) (at_row shift i) (small.within row i r inside) ((shift_within a.side shift b).within i (omega (arith, inside, b.whole))) in
    let whole = sum_small a.side (λ i. power_entry a k row i *ℤ at_row shift i) (2 ^ 80) each in
    omega (arith, whole, few)

shifted_next : (a : Square) (shift : List ℤ) (k row : ℕ) → shifted a shift (k + 1) row ≡ shifted a shift k row +ℤ carried a shift k row
shifted_next a shift k row = sum_suc k (λ i. carried a shift i row)

pub no_turns : (a : Square) (shift ns : List ℤ) → ns ≡ replicate a.side (pos 0) → IsSumOf a shift 0 ns
unfolding sum_below
no_turns a shift ns is = record {
  whole = ap length is ∙ length-replicate a.side (pos 0);
  rows_are = λ row r. ap (λ xs. get_or xs row (pos 0)) is ∙ get_or-replicate a.side row (pos 0) (pos 0) r;
  small = record { within = λ row r. rw is (rw (get_or-replicate a.side row (pos 0) (pos 0) (omega (arith, r, ap length is, length-replicate a.side (pos 0)))) (omega arith)) };
}

-- one iteration more
pub turned : (a m : Square) (shift sum next : List ℤ) (k e : ℕ) → IsSquare a → IsShift a.side shift → IsSmallPower a k → ((row column : ℕ) → row < a.side → column < a.side → power_entry a k row column ≡ power_entry a e row column) → IsPowerOf a e m → IsSumOf a shift k sum → IsNextSum m shift sum next → IsSumOf a shift (k + 1) next
turned a m shift sum next k e square b small same is before h = record {
  whole = h.same_length ∙ before.whole;
  rows_are = rows;
  small = record { within = λ row r. bound row (omega (arith, r, h.same_length, before.whole)) };
}
  where
    power_is : IsPowerOf a k m
    power_is = record { same_side = is.same_side; entries_are = λ row column r c. is.entries_are row column r c ∙ sym (same row column r c) }

    rows : (row : ℕ) → row < a.side → at_row next row ≡ shifted a shift (k + 1) row
    rows row r = h.rows_are row (omega (arith, r, before.whole)) ∙ ap₂ (λ x y. x +ℤ y) (before.rows_are row r) (image_is a m shift k row power_is r) ∙ sym (shifted_next a shift k row)

    bound : (row : ℕ) → row < a.side → unsigned_abs (at_row next row) ≤ (k + 1) * 2 ^ 82
    bound row r =
        let parts = h.rows_are row (omega (arith, r, before.whole)) ∙ ap (λ y. at_row sum row +ℤ y) (image_is a m shift k row power_is r) in
        omega (arith, ap unsigned_abs parts, sum_abs (at_row sum row) (carried a shift k row), before.small.within row (omega (arith, r, before.whole)), carried_small a shift k row square.few b small r)

-- the sums of up to so many iterations
pub record IsTurning (a : Square) (shift : List ℤ) (turns : ℕ) (sums : List (List ℤ)) : Type 0 where
  pub are : AreSums a shift sums
  pub count : length sums ≡ turns + 1

pub sums_first : (a : Square) (shift ns : List ℤ) → ns ≡ replicate a.side (pos 0) → AreSums a shift (ns ∷ [])
sums_first a shift ns is = record { each = push_each (IsSumOf a shift) [] ns (λ k d h. absurd (omega (arith, h))) (no_turns a shift ns is) }

pub reduced_below : (p k e : ℕ) → IsReduced p k e → k < p + p + p → e < p + p + 1
reduced_below p k e h few = grind (arith, h.near, h.far)

reduced_same : (a : Square) (p k e : ℕ) → IsPower a p → IsReduced p k e → (row column : ℕ) → row < a.side → column < a.side → power_entry a k row column ≡ power_entry a e row column
reduced_same a p k e power h row column r c = elim (cases_lt (p + p) k) [
  | inl far ↦ comes_again a p k e power (omega (arith, far)) (h.far far) row column r c
  | inr near ↦ ap (λ n. power_entry a n row column) (sym (h.near near))
]

pub turning_more : (a m : Square) (shift sum next : List ℤ) (p turns e : ℕ) (powers : List Square) (sums : List (List ℤ)) → IsSquare a → IsShift a.side shift → IsPower a p → turns < p + p + p → ArePowers a powers → length powers ≡ p + p + 1 → IsReduced p turns e → m ≡ get_or powers e m → sum ≡ get_or sums turns sum → IsTurning a shift turns sums → IsNextSum m shift sum next → IsTurning a shift (turns + 1) (sums ++ next ∷ [])
turning_more a m shift sum next p turns e powers sums square b power few are count reduced m_is sum_is before h = record {
  are = record { each = push_each (IsSumOf a shift) sums next before.are.each (subst (λ k. IsSumOf a shift k next) (sym before.count) last) };
  count = omega (arith, before.count, length-append sums (next ∷ []));
}
  where
    power_is : IsPowerOf a e m
    power_is = subst (IsPowerOf a e) (sym m_is) (are.each e m (omega (arith, count, reduced_below p turns e reduced few)))

    sum_of : IsSumOf a shift turns sum
    sum_of = subst (IsSumOf a shift turns) (sym sum_is) (before.are.each turns sum (omega (arith, before.count)))

    last : IsSumOf a shift (turns + 1) next
    last = turned a m shift sum next turns e square b (small_before a p turns power (omega (arith, few))) (reduced_same a p turns e power reduced) power_is sum_of h

-- the powers that an orbit makes
pub record IsRaising (a : Square) (made : ℕ) (ms : List Square) : Type 0 where
  pub are : ArePowers a ms
  pub count : length ms ≡ made + 1

stride_bound : (n : ℕ) (x y z w : ℤ) → x ≡ y +ℤ w → unsigned_abs (y -ℤ z) ≤ n * 2 ^ 82 → unsigned_abs w ≤ 2 ^ 82 → unsigned_abs (x -ℤ z) ≤ suc n * 2 ^ 82
stride_bound n x y z w e h k =
    let parts : x -ℤ z ≡ (y -ℤ z) +ℤ w = omega (arith, ints, e) in
    omega (arith, ap unsigned_abs parts, sum_abs (y -ℤ z) w, h, k)

-- p more iterations add at most p images
pub stride_small : (a : Square) (shift : List ℤ) (row n k m : ℕ) → a.side ≤ 4 → IsShift a.side shift → ((i : ℕ) → i < m → IsSmallPower a i) → row < a.side → m ≡ k + n → unsigned_abs (shifted a shift m row -ℤ shifted a shift k row) ≤ n * 2 ^ 82
stride_small a shift row zero k m few b small r is = rw (ap (λ i. shifted a shift i row) is') (omega (arith, ints))
  where
    is' : m ≡ k
    is' = omega (arith, is)
stride_small a shift row (suc n) k m few b small r is =
    let before = stride_small a shift row n k (k + n) few b (λ i h. small i (omega (arith, h, is))) r refl in
    let last = carried_small a shift (k + n) row few b (small (k + n) (omega (arith, is))) r in
    let parts : shifted a shift m row ≡ shifted a shift (k + n) row +ℤ carried a shift (k + n) row = ap (λ i. shifted a shift i row) (omega (arith, is)) ∙ shifted_next a shift (k + n) row in
    stride_bound n (shifted a shift m row) (shifted a shift (k + n) row) (shifted a shift k row) (carried a shift (k + n) row) parts before last

-- the difference of two of an orbit's sums
pub orbit_stride : (s o : Route) (ms : List Square) (ns : List (List ℤ)) (r row : ℕ) (after before : List ℤ) (x : ℤ) → o ≡ s → IsOrbit o ms ns → after ≡ get_or ns (o.power + o.power + r) after → before ≡ get_or ns (o.power + r) before → x ≡ at_row after row -ℤ at_row before row → r < s.power → row < s.matrix.side → unsigned_abs x ≤ s.power * 2 ^ 82
orbit_stride s o ms ns r row after before x o_is h after_is before_is x_is = subst (λ (t : Route). r < t.power → row < t.matrix.side → unsigned_abs x ≤ t.power * 2 ^ 82) o_is bound
  where
    bound : r < o.power → row < o.matrix.side → unsigned_abs x ≤ o.power * 2 ^ 82
    bound below inside =
        let first : IsSumOf o.matrix o.shift (o.power + o.power + r) after = subst (IsSumOf o.matrix o.shift (o.power + o.power + r)) (sym after_is) (h.sums_are.each (o.power + o.power + r) after (omega (arith, below, h.sums_count))) in
        let second : IsSumOf o.matrix o.shift (o.power + r) before = subst (IsSumOf o.matrix o.shift (o.power + r)) (sym before_is) (h.sums_are.each (o.power + r) before (omega (arith, below, h.sums_count))) in
        let small = stride_small o.matrix o.shift row o.power (o.power + r) (o.power + o.power + r) h.square.few h.shift_is (λ i far. small_before o.matrix o.power i h.comes_again (omega (arith, far, below))) inside (omega arith) in
        omega (arith, small, ap unsigned_abs (x_is ∙ ap₂ (λ y z. y -ℤ z) (first.rows_are row inside) (second.rows_are row inside)))
