use Rattle.std.proofs.Common.{◌≡◌}
use Rattle.step_tables.specs.Kept.{wide}
use Rattle.product_ops.proofs.tests.weak.set_frac_state.Given as goal

abbrev pub invariant-loop-letter : goal.invariant-loop-letter
invariant-loop-letter g l = l.table.bounds ≡ wide
