use Rattle.std.proofs.Common.{◌≡◌, ◌+◌, ◌*◌, ◌<◌, ℕ, slice_index}
use Rattle.lash_model.specs.Tables.{letters}
use Rattle.weak_min.proofs.comparison.same_rows.Given as goal

abbrev pub invariant-loop-state : goal.invariant-loop-state
invariant-loop-state l = (q : ℕ) → q < l.state → (k : ℕ) → k < letters l.left.table → slice_index l.left.table.rows (q * letters l.left.table + k) ≡ slice_index l.right.table.rows (q * letters l.left.table + k)
