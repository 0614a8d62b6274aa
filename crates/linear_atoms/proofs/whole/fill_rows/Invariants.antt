use Rattle.std.proofs.Common.{◌*◌, ◌^◌}
use Rattle.linear_atoms.specs.Whole.{AreWholeSteps}
use Rattle.linear_atoms.proofs.whole.fill_rows.Given as goal

abbrev pub invariant-loop-state : goal.invariant-loop-state
invariant-loop-state l = AreWholeSteps l.base (l.state * l.base ^ 1) l.table
