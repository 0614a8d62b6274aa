use Rattle.std.proofs.Common.{◌≡◌, take}
use Rattle.subset_build.specs.Subsets.{targets_of_set}
use Rattle.subset_build.proofs.set_steps.SetSteps.write_targets.Given as goal

abbrev pub invariant-loop-state : goal.invariant-loop-state
invariant-loop-state g l = l.into.items ≡ targets_of_set l.self.moves l.self.track l.letter (take l.state-index l.set)
