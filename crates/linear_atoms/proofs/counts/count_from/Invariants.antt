use Rattle.std.proofs.Common.{length, ◌-◌}
use Rattle.linear_atoms.specs.Filling.{IsCountedUpTo}
use Rattle.linear_atoms.proofs.counts.count_from.Given as goal

abbrev pub invariant-loop-count : goal.invariant-loop-count
invariant-loop-count l = IsCountedUpTo l.thresholds l.value l.count

abbrev pub decreases-loop-count : goal.decreases-loop-count
decreases-loop-count l = length l.thresholds - l.count
