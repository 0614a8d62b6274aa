use Rattle.subset_build.specs.Closing.{IsClosing}
use Rattle.subset_build.proofs.closure.meet_roots.Given as goal

abbrev pub invariant-loop-bit : goal.invariant-loop-bit
invariant-loop-bit g l = IsClosing l.signed.table.now.table l.signed.track l.signed.sign l.bit 0 0 l.marks
