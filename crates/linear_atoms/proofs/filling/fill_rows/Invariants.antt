use Rattle.std.proofs.Common.{◌*◌, ◌^◌, length}
use Rattle.linear_atoms.specs.Filling.{AreStepsFilled}
use Rattle.linear_atoms.proofs.filling.fill_rows.Given as goal

abbrev pub invariant-loop-state : goal.invariant-loop-state
invariant-loop-state l = AreStepsFilled l.plan.atom.now l.plan.base l.plan.tracks l.plan.totals.now l.plan.thresholds.now l.plan.fracs (2 ^ l.plan.tracks) (l.state * length l.plan.totals.now) l.table
