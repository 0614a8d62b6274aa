use Rattle.std.proofs.Common.{◌≡◌, ◌++◌, map}
use Rattle.std.specs.List.{range_with_len}
use Rattle.subset_build.specs.Projection.{target}
use Rattle.subset_build.proofs.set_steps.SetSteps.push_targets.Given as goal

abbrev pub invariant-loop-digit : goal.invariant-loop-digit
invariant-loop-digit g l = l.into.items ≡ l.initial.into.items ++ map (target l.self.moves l.self.track l.letter l.state) (range_with_len 0 l.digit)
