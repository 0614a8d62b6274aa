-- Turns made so many times: the vector after k turns is affine in the vector at the beginning.
use Rattle.std.proofs.Common.{◌≡◌, ℕ, zero, suc, ◌<◌, List, length, arith, refl, sym, ap, ◌∙◌}
use Rattle.std.proofs.Math.IntN.{ℤ, pos, ◌+ℤ◌, ◌*ℤ◌}
use Rattle.std.proofs.lemmas.Int.{ints}
use Rattle.integer_laws.proofs.Ring.{times_assoc, times_sum, times_zero, sum_times}
use Rattle.integer_laws.proofs.Entries.{length-vector_from, entry-vector}
use Rattle.matrix_powers.specs.Matrices.{Square, entry, sum_below, power_entry}
use Rattle.matrix_powers.specs.Orbits.{at_row, carried, shifted}
use Rattle.loop_laws.specs.Turns.{Body, turned}
use Rattle.loop_laws.proofs.Sums.{zero_times, sum_same, sum_plus, sum_factor, sum_none, associates, picked}

-- where so many turns lead, whether they are allowed or not
unfoldable pub iterated : Body → ℕ → ℕ → List ℤ → List ℤ
iterated l d zero x = x
iterated l d (suc k) x = iterated l d k (turned l d x)

-- the last turn apart
pub iterated_last : (l : Body) (d k : ℕ) (x : List ℤ) → iterated l d (suc k) x ≡ turned l d (iterated l d k x)
unfolding iterated
iterated_last l d zero x = refl
iterated_last l d (suc k) x = iterated_last l d k (turned l d x)

pub length-iterated : (l : Body) (d k : ℕ) (x : List ℤ) → length x ≡ l.matrix.side → length (iterated l d k x) ≡ l.matrix.side
unfolding iterated
length-iterated l d zero x e = e
length-iterated l d (suc k) x e = length-iterated l d k (turned l d x) (length-vector_from _ 0 l.matrix.side)

-- b + A (b + A b + ..) is the sum with one summand more
pub shifted_next : (a : Square) (shift : List ℤ) (k row : ℕ) → row < a.side → shifted a shift (suc k) row ≡ at_row shift row +ℤ sum_below a.side (λ i. entry a row i *ℤ shifted a shift k i)
unfolding sum_below power_entry
shifted_next a shift zero row lt = omega (arith, ints, picked row a.side (at_row shift) lt, sum_none a.side (λ i. entry a row i *ℤ pos 0) (λ i _. times_zero (entry a row i)))
shifted_next a shift (suc k) row lt =
    let rec = shifted_next a shift k row lt in
    let more = associates a.side a.side (entry a row) (power_entry a k) (at_row shift) in
    let parted = sum_same a.side (λ i. entry a row i *ℤ (shifted a shift k i +ℤ carried a shift k i)) (λ i. (entry a row i *ℤ shifted a shift k i) +ℤ (entry a row i *ℤ carried a shift k i)) (λ i _. times_sum (entry a row i) (shifted a shift k i) (carried a shift k i)) in
    let joined = sum_plus a.side (λ i. entry a row i *ℤ shifted a shift k i) (λ i. entry a row i *ℤ carried a shift k i) in
    omega (arith, ints, rec, more, parted, joined)

-- the row of the vector after k turns
pub affine : (l : Body) (d k : ℕ) (x : List ℤ) (row : ℕ) → row < l.matrix.side → at_row (iterated l d k x) row ≡ sum_below l.matrix.side (λ c. power_entry l.matrix k row c *ℤ at_row x c) +ℤ (shifted l.matrix l.shift k row *ℤ pos d)
unfolding iterated sum_below power_entry
affine l d zero x row lt = omega (arith, ints, picked row l.matrix.side (at_row x) lt, zero_times (pos d))
affine l d (suc k) x row lt =
    let a = l.matrix in
    let n = l.matrix.side in
    let z = iterated l d k x in
    let lead : (i : ℕ) → ℤ = λ i. sum_below n (λ c. power_entry a k i c *ℤ at_row x c) in
    let shift : (i : ℕ) → ℤ = λ i. shifted a l.shift k i in
    let first = ap (λ v. at_row v row) (iterated_last l d k x) ∙ entry-vector (λ r. sum_below n (λ i. entry a r i *ℤ at_row z i) +ℤ (at_row l.shift r *ℤ pos d)) n row lt in
    let parted = sum_same n (λ i. entry a row i *ℤ at_row z i) (λ i. (entry a row i *ℤ lead i) +ℤ ((entry a row i *ℤ shift i) *ℤ pos d)) (λ i below. ap (λ y. entry a row i *ℤ y) (affine l d k x i below) ∙ spread (entry a row i) (lead i) (shift i) (pos d)) in
    let joined = sum_plus n (λ i. entry a row i *ℤ lead i) (λ i. (entry a row i *ℤ shift i) *ℤ pos d) in
    let power = associates n n (entry a row) (power_entry a k) (at_row x) in
    let out = sum_factor n (pos d) (λ i. entry a row i *ℤ shift i) in
    let next = ap (λ s. s *ℤ pos d) (shifted_next a l.shift k row lt) in
    let opened = sum_times (at_row l.shift row) (sum_below n (λ i. entry a row i *ℤ shift i)) (pos d) in
    first ∙ end _ _ _ _ _ _ _ _ _ _ parted joined power out next opened refl
  where
    spread : (e s t d : ℤ) → e *ℤ (s +ℤ (t *ℤ d)) ≡ (e *ℤ s) +ℤ ((e *ℤ t) *ℤ d)
    spread e s t d = times_sum e s (t *ℤ d) ∙ ap (λ y. (e *ℤ s) +ℤ y) (sym (times_assoc e t d))

    end : (s both one two lead factor grown base whole rest : ℤ) → s ≡ both → both ≡ one +ℤ two → lead ≡ one → two ≡ factor → grown ≡ whole → whole ≡ base +ℤ rest → rest ≡ factor → s +ℤ base ≡ lead +ℤ grown
    end s both one two lead factor grown base whole rest a b c e f g h = omega (arith, ints)
