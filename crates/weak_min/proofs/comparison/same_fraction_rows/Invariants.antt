use Rattle.std.proofs.Common.{◌≡◌, ◌+◌, ◌*◌, ◌<◌, ℕ, slice_index}
use Rattle.lash_model.specs.Tables.{letters}
use Rattle.weak_min.proofs.comparison.same_fraction_rows.Given as goal

abbrev pub invariant-loop-state : goal.invariant-loop-state
invariant-loop-state l = (q : ℕ) → q < l.state → (k : ℕ) → k < letters l.left.table → slice_index l.left.table.frac_rows (q * letters l.left.table + k) ≡ slice_index l.right.table.frac_rows (q * letters l.left.table + k)
