use Rattle.std.proofs.Common.{◌≡◌}
use Rattle.step_tables.specs.Kept.{wide}
use Rattle.set_answers.proofs.tests.real.filled.Given as goal

abbrev pub invariant-loop-state : goal.invariant-loop-state
invariant-loop-state g l = l.table.bounds ≡ wide

abbrev pub invariant-loop-state-2 : goal.invariant-loop-state-2
invariant-loop-state-2 g l = l.table.bounds ≡ wide
