use Rattle.std.proofs.Common.{◌+◌, ◌*◌, length}
use Rattle.linear_atoms.specs.Kinds.{comparison_of}
use Rattle.linear_atoms.specs.Bounds.{AreBoundsFilled}
use Rattle.linear_atoms.proofs.bounds.fill_row.Given as goal

abbrev pub invariant-loop-letter : goal.invariant-loop-letter
invariant-loop-letter l = AreBoundsFilled (comparison_of l.plan.kind) l.plan.atom.now l.plan.base l.plan.tracks l.plan.totals.now l.plan.thresholds.now (length l.plan.thresholds.now + 1) (l.state * length l.plan.totals.now + l.letter) 0 l.table
