-- All but the rest was written, with no fault.
use Rattle.std.proofs.Common.{◌≡◌, length}
use Rattle.lash_io.proofs.Writing.{Written}
use Rattle.lash_io.proofs.adapters.StdSinkSink.put.Given as goal

abbrev pub invariant-loop-rest : goal.invariant-loop-rest
invariant-loop-rest g l =
    (l.self.fault_count ≡ l.initial.self.fault_count)
    × Written (g.W.Write.contents l.initial.self.inner) (g.W.Write.contents l.self.inner) l.bytes l.rest

abbrev pub decreases-loop-rest : goal.decreases-loop-rest
decreases-loop-rest g l = length l.rest
