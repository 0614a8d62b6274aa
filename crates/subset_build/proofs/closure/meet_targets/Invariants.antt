use Rattle.subset_build.specs.Closing.{IsFollowing}
use Rattle.subset_build.proofs.closure.meet_targets.Given as goal

abbrev pub invariant-loop-digit : goal.invariant-loop-digit
invariant-loop-digit g l = IsFollowing l.signed.table.now.table l.signed.track l.signed.sign l.at l.state l.digit l.marks
