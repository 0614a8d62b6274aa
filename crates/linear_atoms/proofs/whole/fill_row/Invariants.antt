use Rattle.std.proofs.Common.{◌+◌, ◌*◌, ◌^◌}
use Rattle.linear_atoms.specs.Whole.{AreWholeSteps}
use Rattle.linear_atoms.proofs.whole.fill_row.Given as goal

abbrev pub invariant-loop-letter : goal.invariant-loop-letter
invariant-loop-letter l = AreWholeSteps l.base (l.state * l.base ^ 1 + l.letter) l.table
