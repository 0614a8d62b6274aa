-- From p on the powers of the matrix come again every p turns, so that each further p turns lead on by the same.
use Rattle.std.proofs.Common.{◌≡◌, ℕ, zero, suc, ◌+◌, ◌*◌, ◌<◌, List, arith, refl, sym, ap, ◌∙◌}
use Rattle.std.proofs.Math.IntN.{ℤ, pos, ◌+ℤ◌, ◌*ℤ◌}
use Rattle.std.proofs.lemmas.Int.{ints}
use Rattle.integer_laws.proofs.Ring.{times_assoc, sum_times}
use Rattle.matrix_powers.specs.Matrices.{Square, entry, sum_below, power_entry}
use Rattle.matrix_powers.specs.Powers.{IsPower}
use Rattle.matrix_powers.specs.Orbits.{at_row, carried, shifted, stride}
use Rattle.loop_laws.specs.Turns.{Body}
use Rattle.loop_laws.proofs.Sums.{zero_times, one_times, sum_same}
use Rattle.loop_laws.proofs.Iterating.{iterated, affine}

power_again : (a : Square) (p t row column : ℕ) → IsPower a p → row < a.side → column < a.side → power_entry a (p + (p + t)) row column ≡ power_entry a (p + t) row column
unfolding power_entry
power_again a p zero row column h r c =
    let both : p + (p + zero) ≡ p + p = omega arith in
    let one : p ≡ p + zero = omega arith in
    ap (λ k. power_entry a k row column) both ∙ h.again row column r c ∙ ap (λ k. power_entry a k row column) one
power_again a p (suc t) row column h r c =
    let more : p + (p + suc t) ≡ suc (p + (p + t)) = omega arith in
    let less : suc (p + t) ≡ p + suc t = omega arith in
    ap (λ k. power_entry a k row column) more
    ∙ sum_same a.side (λ i. entry a row i *ℤ power_entry a (p + (p + t)) i column) (λ i. entry a row i *ℤ power_entry a (p + t) i column) (λ i lt. ap (λ y. entry a row i *ℤ y) (power_again a p t i column h lt c))
    ∙ ap (λ k. power_entry a k row column) less

carried_again : (a : Square) (shift : List ℤ) (p t row : ℕ) → IsPower a p → row < a.side → carried a shift (p + (p + t)) row ≡ carried a shift (p + t) row
carried_again a shift p t row h r = sum_same a.side (λ i. power_entry a (p + (p + t)) row i *ℤ at_row shift i) (λ i. power_entry a (p + t) row i *ℤ at_row shift i) (λ i lt. ap (λ y. y *ℤ at_row shift i) (power_again a p t row i h r lt))

one_more : (a : Square) (shift : List ℤ) (k row : ℕ) → shifted a shift (suc k) row ≡ shifted a shift k row +ℤ carried a shift k row
unfolding sum_below
one_more a shift k row = refl

shift_again : (a : Square) (shift : List ℤ) (p t row : ℕ) → IsPower a p → row < a.side → shifted a shift (p + (p + t)) row ≡ shifted a shift (p + t) row +ℤ stride a shift p 0 row
shift_again a shift p zero row h r =
    let both : p + (p + zero) ≡ p + p + 0 = omega arith in
    omega (arith, ints, ap (λ k. shifted a shift k row) both)
shift_again a shift p (suc t) row h r =
    let more : p + (p + suc t) ≡ suc (p + (p + t)) = omega arith in
    let less : p + suc t ≡ suc (p + t) = omega arith in
    omega (arith, ints, ap (λ k. shifted a shift k row) more, ap (λ k. shifted a shift k row) less, one_more a shift (p + (p + t)) row, one_more a shift (p + t) row, carried_again a shift p t row h r, shift_again a shift p t row h r)

-- the stride is the same for each remainder
stride_same : (a : Square) (shift : List ℤ) (p j row : ℕ) → IsPower a p → row < a.side → stride a shift p j row ≡ stride a shift p 0 row
stride_same a shift p j row h r =
    let both : p + p + j ≡ p + (p + j) = omega arith in
    omega (arith, ints, ap (λ k. shifted a shift k row) both, shift_again a shift p j row h r)

power_after : (a : Square) (p m j row column : ℕ) → IsPower a p → row < a.side → column < a.side → power_entry a (p * suc m + j) row column ≡ power_entry a (p + j) row column
power_after a p zero j row column h r c = let one : p * suc zero + j ≡ p + j = omega arith in ap (λ k. power_entry a k row column) one
power_after a p (suc m) j row column h r c =
    let more : p * suc (suc m) + j ≡ p + (p + (p * m + j)) = omega arith in
    let less : p + (p * m + j) ≡ p * suc m + j = omega arith in
    ap (λ k. power_entry a k row column) more ∙ power_again a p (p * m + j) row column h r c ∙ ap (λ k. power_entry a k row column) less ∙ power_after a p m j row column h r c

next_times : (m : ℕ) (w : ℤ) → pos (suc m) *ℤ w ≡ (pos m *ℤ w) +ℤ w
next_times m w = let split : pos (suc m) ≡ pos m +ℤ pos 1 = omega (arith, ints) in ap (λ y. y *ℤ w) split ∙ sum_times (pos m) (pos 1) w ∙ ap (λ y. (pos m *ℤ w) +ℤ y) (one_times w)

shift_after : (a : Square) (shift : List ℤ) (p m j row : ℕ) → IsPower a p → row < a.side → shifted a shift (p * suc m + j) row ≡ shifted a shift (p + j) row +ℤ (pos m *ℤ stride a shift p 0 row)
shift_after a shift p zero j row h r =
    let one : p * suc zero + j ≡ p + j = omega arith in
    omega (arith, ints, ap (λ k. shifted a shift k row) one, zero_times (stride a shift p 0 row))
shift_after a shift p (suc m) j row h r =
    let more : p * suc (suc m) + j ≡ p + (p + (p * m + j)) = omega arith in
    let less : p + (p * m + j) ≡ p * suc m + j = omega arith in
    omega (arith, ints, ap (λ k. shifted a shift k row) more, ap (λ k. shifted a shift k row) less, shift_again a shift p (p * m + j) row h r, shift_after a shift p m j row h r, next_times m (stride a shift p 0 row))

-- so the vectors after p m + j turns lie on a line
pub on_line : (l : Body) (p d m j : ℕ) (x : List ℤ) (row : ℕ) → IsPower l.matrix p → row < l.matrix.side → at_row (iterated l d (p * suc m + j) x) row ≡ at_row (iterated l d (p + j) x) row +ℤ (pos m *ℤ (stride l.matrix l.shift p j row *ℤ pos d))
on_line l p d m j x row h r =
    let a = l.matrix in
    let w = stride a l.shift p j row in
    let there = affine l d (p * suc m + j) x row r in
    let here = affine l d (p + j) x row r in
    let lead = sum_same a.side (λ c. power_entry a (p * suc m + j) row c *ℤ at_row x c) (λ c. power_entry a (p + j) row c *ℤ at_row x c) (λ c lt. ap (λ y. y *ℤ at_row x c) (power_after a p m j row c h r lt)) in
    let step : shifted a l.shift (p * suc m + j) row ≡ shifted a l.shift (p + j) row +ℤ (pos m *ℤ w) = shift_after a l.shift p m j row h r ∙ ap (λ y. shifted a l.shift (p + j) row +ℤ (pos m *ℤ y)) (sym (stride_same a l.shift p j row h r)) in
    end _ _ _ _ _ _ _ _ there here lead (ap (λ y. y *ℤ pos d) step) (sum_times (shifted a l.shift (p + j) row) (pos m *ℤ w) (pos d)) (times_assoc (pos m) w (pos d))
  where
    end : (there here far near grown base spread step : ℤ) → there ≡ far +ℤ grown → here ≡ near +ℤ base → far ≡ near → grown ≡ spread → {ahead : ℤ} → spread ≡ base +ℤ ahead → ahead ≡ step → there ≡ here +ℤ step
    end there here far near grown base spread step a b c e f g = omega (arith, ints)
