use Rattle.std.proofs.Common.{◌-◌, length}
use Rattle.subset_build.specs.Closing.{IsClosing}
use Rattle.subset_build.proofs.closure.close.Given as goal

abbrev pub invariant-loop-at : goal.invariant-loop-at
invariant-loop-at g l = IsClosing l.signed.table.now.table l.signed.track l.signed.sign 2 l.at 0 l.marks

abbrev pub decreases-loop-at : goal.decreases-loop-at
decreases-loop-at g l = length l.marks.marked - l.at
