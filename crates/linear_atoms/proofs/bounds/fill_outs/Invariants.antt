use Rattle.linear_atoms.specs.Kinds.{comparison_of}
use Rattle.linear_atoms.specs.Bounds.{AreBoundsFilled}
use Rattle.linear_atoms.proofs.bounds.fill_outs.Given as goal

abbrev pub invariant-loop-count : goal.invariant-loop-count
invariant-loop-count l = AreBoundsFilled (comparison_of l.plan.kind) l.plan.atom.now l.plan.base l.plan.tracks l.plan.totals.now l.plan.thresholds.now l.count 0 0 l.table
