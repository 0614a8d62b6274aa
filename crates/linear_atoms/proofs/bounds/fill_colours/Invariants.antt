use Rattle.std.proofs.Common.{◌+◌, ◌*◌, length}
use Rattle.lasso_laws.specs.RealAtoms.{bound_states}
use Rattle.linear_atoms.specs.Kinds.{comparison_of}
use Rattle.linear_atoms.specs.Bounds.{AreBoundsFilled}
use Rattle.linear_atoms.proofs.bounds.fill_colours.Given as goal

abbrev pub invariant-loop-state : goal.invariant-loop-state
invariant-loop-state l = AreBoundsFilled (comparison_of l.plan.kind) l.plan.atom.now l.plan.base l.plan.tracks l.plan.totals.now l.plan.thresholds.now (length l.plan.thresholds.now + 1) (bound_states l.plan.atom.now.terms * length l.plan.totals.now) l.state l.table
