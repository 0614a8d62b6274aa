use Rattle.std.proofs.Common.{◌≡◌}
use Rattle.step_tables.specs.Kept.{wide}
use Rattle.product_ops.proofs.tests.weak.table_of.Given as goal

abbrev pub invariant-loop-sign : goal.invariant-loop-sign
invariant-loop-sign g l = l.table.bounds ≡ wide

abbrev pub invariant-loop-state : goal.invariant-loop-state
invariant-loop-state g l = l.table.bounds ≡ wide

abbrev pub invariant-loop-state-2 : goal.invariant-loop-state-2
invariant-loop-state-2 g l = l.table.bounds ≡ wide
