use Rattle.linear_atoms.specs.Filling.{AreStepsFilled}
use Rattle.linear_atoms.proofs.filling.fill_roots.Given as goal

abbrev pub invariant-loop-sign : goal.invariant-loop-sign
invariant-loop-sign l = AreStepsFilled l.plan.atom.now l.plan.base l.plan.tracks l.plan.totals.now l.plan.thresholds.now l.plan.fracs l.sign 0 l.table
