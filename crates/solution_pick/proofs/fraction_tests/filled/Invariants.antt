use Rattle.std.proofs.Common.{◌≡◌}
use Rattle.step_tables.specs.Kept.{wide}
use Rattle.solution_pick.proofs.fraction_tests.filled.Given as goal

abbrev pub invariant-loop-row : goal.invariant-loop-row
invariant-loop-row g l = l.table.bounds ≡ wide

abbrev pub invariant-loop-row-2 : goal.invariant-loop-row-2
invariant-loop-row-2 g l = l.table.bounds ≡ wide
