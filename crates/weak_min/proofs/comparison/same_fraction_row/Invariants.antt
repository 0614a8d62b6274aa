use Rattle.std.proofs.Common.{◌≡◌, ◌+◌, ◌*◌, ◌<◌, ℕ, slice_index}
use Rattle.lash_model.specs.Tables.{letters}
use Rattle.weak_min.proofs.comparison.same_fraction_row.Given as goal

abbrev pub invariant-loop-letter : goal.invariant-loop-letter
invariant-loop-letter l = (k : ℕ) → k < l.letter → slice_index l.left.table.frac_rows (l.state * letters l.left.table + k) ≡ slice_index l.right.table.frac_rows (l.state * letters l.left.table + k)
