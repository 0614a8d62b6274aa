-- The values of a closure's terms are the entries of the vectors after so many turns.
use Rattle.std.proofs.Common.{◌≡◌, ℕ, zero, suc, ◌+◌, ◌*◌, ◌<◌, ◌≤◌, List, length, arith, refl, sym, ap, ◌∙◌, get_or}
use Rattle.std.proofs.Math.IntN.{ℤ, pos, ◌+ℤ◌, ◌-ℤ◌, ◌*ℤ◌}
use Rattle.std.proofs.lemmas.Int.{ints}
use Rattle.integer_laws.specs.Differences.{diff}
use Rattle.integer_laws.proofs.Ring.{by_diff, diff_same, diff_add, diff_sub, diff_mul, pos_diff}
use Rattle.lash_model.specs.Formulas.{Linear}
use Rattle.lash_model.specs.Meaning.{total}
use Rattle.formula_core.proofs.Adding.{total_added}
use Rattle.term_substitution.specs.Values.{term_value}
use Rattle.term_substitution.proofs.Reaching.{AreBelow, added_below}
use Rattle.matrix_powers.specs.Matrices.{sum_below, power_entry}
use Rattle.matrix_powers.specs.Powers.{IsPower}
use Rattle.matrix_powers.specs.Orbits.{at_row, shifted, stride}
use Rattle.loop_laws.specs.Turns.{Body}
use Rattle.loop_laws.specs.Closures.{coefficients, early_term, late_term}
use Rattle.loop_laws.proofs.Sums.{sum_same}
use Rattle.loop_laws.proofs.Iterating.{iterated, length-iterated, affine}
use Rattle.loop_laws.proofs.Repeating.{on_line}

pub total_coefficients : (f : ℕ → ℤ) (n : ℕ) (ns : List ℤ) → total (coefficients f n) ns ≡ sum_below n (λ c. f c *ℤ at_row ns c)
unfolding coefficients sum_below total
total_coefficients f zero ns = refl
total_coefficients f (suc n) ns = total_added (coefficients f n) n (f n) ns ∙ ap (λ s. s +ℤ (f n *ℤ at_row ns n)) (total_coefficients f n ns)

coefficients_below : (f : ℕ → ℤ) (n places : ℕ) → n ≤ places → AreBelow places (coefficients f n)
unfolding coefficients
coefficients_below f zero places le = tt
coefficients_below f (suc n) places le = added_below places (coefficients f n) n (f n) (omega (arith, le)) (coefficients_below f n places (omega (arith, le)))

-- a vector of so many places has x at its first n places, and y behind them
pub record Stands (n places : ℕ) (x y ns : List ℤ) : Type 0 where
  pub count : length ns ≡ places
  pub room : n + n ≤ places
  pub first : (c : ℕ) → c < n → at_row ns c ≡ at_row x c
  pub second : (c : ℕ) → c < n → at_row ns (n + c) ≡ at_row y c

-- the terms over so many places have the entries of z as their values at ns
pub record AreEntries (ns : List ℤ) (d n places : ℕ) (term : ℕ → Linear) (z : List ℤ) : Type 0 where
  pub whole : length z ≡ n
  pub each : (row : ℕ) → row < n → term_value ns d (term row) ≡ at_row z row
  pub below : (row : ℕ) → row < n → AreBelow places (term row).terms

total_first : (l : Body) (places k row : ℕ) (x y ns : List ℤ) → Stands l.matrix.side places x y ns → total (coefficients (power_entry l.matrix k row) l.matrix.side) ns ≡ sum_below l.matrix.side (λ c. power_entry l.matrix k row c *ℤ at_row x c)
total_first l places k row x y ns s = total_coefficients (power_entry l.matrix k row) l.matrix.side ns ∙ sum_same l.matrix.side (λ c. power_entry l.matrix k row c *ℤ at_row ns c) (λ c. power_entry l.matrix k row c *ℤ at_row x c) (λ c lt. ap (λ v. power_entry l.matrix k row c *ℤ v) (s.first c lt))

-- after k turns
pub early_entries : (l : Body) (d places k : ℕ) (x y ns : List ℤ) → length x ≡ l.matrix.side → Stands l.matrix.side places x y ns → AreEntries ns d l.matrix.side places (early_term l k) (iterated l d k x)
early_entries l d places k x y ns e s = record {
  whole = length-iterated l d k x e;
  each = λ row lt. ap (λ t. t +ℤ (shifted l.matrix l.shift k row *ℤ pos d)) (total_first l places k row x y ns s) ∙ sym (affine l d k x row lt);
  below = λ row lt. coefficients_below (power_entry l.matrix k row) l.matrix.side places (omega (arith, s.room));
}

ring : (w s : ℤ) (m back d : ℕ) → (w *ℤ (pos (m + back) *ℤ pos d)) +ℤ ((s -ℤ (pos back *ℤ w)) *ℤ pos d) ≡ (s *ℤ pos d) +ℤ (pos m *ℤ (w *ℤ pos d))
ring w s m back d = by_diff (λ w. (w *ℤ (pos (m + back) *ℤ pos d)) +ℤ ((s -ℤ (pos back *ℤ w)) *ℤ pos d) ≡ (s *ℤ pos d) +ℤ (pos m *ℤ (w *ℤ pos d))) (λ a b.
    by_diff (λ s. (diff a b *ℤ (pos (m + back) *ℤ pos d)) +ℤ ((s -ℤ (pos back *ℤ diff a b)) *ℤ pos d) ≡ (s *ℤ pos d) +ℤ (pos m *ℤ (diff a b *ℤ pos d))) (λ u v.
    simp (pos_diff, diff_add, diff_sub, diff_mul) (diff_same _ _ _ _ (omega arith))) s) w

late_end : (t sum grown near far back base step : ℤ) → t ≡ sum +ℤ grown → grown +ℤ back ≡ base +ℤ step → near ≡ sum +ℤ base → far ≡ near +ℤ step → t +ℤ back ≡ far
late_end t sum grown near far back base step a b c f = omega (arith, ints)

late_value : (l : Body) (p d places j place back m : ℕ) (x y ns : List ℤ) (row : ℕ) → IsPower l.matrix p → Stands l.matrix.side places x y ns → at_row ns place ≡ pos (m + back) *ℤ pos d → row < l.matrix.side → term_value ns d (late_term l p j place back row) ≡ at_row (iterated l d (p * suc m + j) x) row
late_value l p d places j place back m x y ns row h s there r =
    let w = stride l.matrix l.shift p j row in
    let grown = total_added (coefficients (power_entry l.matrix (p + j) row) l.matrix.side) place w ns ∙ ap (λ t. t +ℤ (w *ℤ get_or ns place (pos 0))) (total_first l places (p + j) row x y ns s) ∙ ap (λ v. sum_below l.matrix.side (λ c. power_entry l.matrix (p + j) row c *ℤ at_row x c) +ℤ (w *ℤ v)) there in
    late_end _ _ _ _ _ _ _ _ grown (ring w (shifted l.matrix l.shift (p + j) row) m back d) (affine l d (p + j) x row r) (on_line l p d m j x row h r)

-- after p turns m + 1 times and j turns, where the entry at the place is m and what the term counts from
pub late_entries : (l : Body) (p d places j place back m : ℕ) (x y ns : List ℤ) → IsPower l.matrix p → length x ≡ l.matrix.side → Stands l.matrix.side places x y ns → place < places → at_row ns place ≡ pos (m + back) *ℤ pos d → AreEntries ns d l.matrix.side places (late_term l p j place back) (iterated l d (p * suc m + j) x)
late_entries l p d places j place back m x y ns h e s lt there = record {
  whole = length-iterated l d (p * suc m + j) x e;
  each = λ row r. late_value l p d places j place back m x y ns row h s there r;
  below = λ row r. added_below places (coefficients (power_entry l.matrix (p + j) row) l.matrix.side) place (stride l.matrix l.shift p j row) lt (coefficients_below (power_entry l.matrix (p + j) row) l.matrix.side places (omega (arith, s.room)));
}
