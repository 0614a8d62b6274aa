-- The first states lead to no lower one.
use Rattle.std.proofs.Common.{ℕ, ◌+◌, ◌*◌, ◌<◌, ◌≤◌}
use Rattle.std.specs.Prelude.{slice_index}
use Rattle.lash_model.specs.Tables.{letters}
use Rattle.set_answers.proofs.tests.real.is_rising.Given as goal

abbrev pub invariant-loop-state : goal.invariant-loop-state
invariant-loop-state l = (q k : ℕ) → q < l.state → k < letters l.table.table → q ≤ slice_index l.table.table.frac_rows (q * letters l.table.table + k)
