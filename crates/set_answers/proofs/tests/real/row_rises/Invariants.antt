-- The first letters lead to no lower state.
use Rattle.std.proofs.Common.{ℕ, ◌+◌, ◌*◌, ◌<◌, ◌≤◌}
use Rattle.std.specs.Prelude.{slice_index}
use Rattle.lash_model.specs.Tables.{letters}
use Rattle.set_answers.proofs.tests.real.row_rises.Given as goal

abbrev pub invariant-loop-letter : goal.invariant-loop-letter
invariant-loop-letter l = (k : ℕ) → k < l.letter → l.state ≤ slice_index l.table.table.frac_rows (l.state * letters l.table.table + k)
