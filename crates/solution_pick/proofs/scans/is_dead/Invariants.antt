use Rattle.std.proofs.Common.{◌≡◌, ℕ, ◌+◌, ◌*◌, ◌<◌, slice_index}
use Rattle.lash_model.specs.Tables.{letters}
use Rattle.solution_pick.proofs.scans.is_dead.Given as goal

abbrev pub invariant-loop-letter : goal.invariant-loop-letter
invariant-loop-letter l = (k : ℕ) → k < l.letter → slice_index l.table.table.frac_rows (l.state * letters l.table.table + k) ≡ l.state
