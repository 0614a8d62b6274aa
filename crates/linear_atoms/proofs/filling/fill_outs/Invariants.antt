use Rattle.linear_atoms.specs.Kinds.{comparison_of}
use Rattle.linear_atoms.specs.Filling.{IsFilling}
use Rattle.linear_atoms.proofs.filling.fill_outs.Given as goal

abbrev pub invariant-loop-state : goal.invariant-loop-state
invariant-loop-state l = IsFilling (comparison_of l.plan.kind) l.plan.atom.now l.plan.base l.plan.tracks l.plan.totals.now l.plan.thresholds.now l.plan.fracs l.state l.table
