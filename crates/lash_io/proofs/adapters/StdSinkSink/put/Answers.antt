-- One more write, with no fault.
use Rattle.std.proofs.Common.{◌∙◌, refl}
use Rattle.lash_io.proofs.Writing.{written_more}
use Rattle.lash_io.proofs.adapters.StdSinkSink.put.Goals as goal

pub loop-rest-preserved : goal.loop-rest-preserved
loop-rest-preserved g c = (
  c.in-Ok.ensures.faults ∙ c.loop-rest.invariant.0,
  written_more _ _ _ _ _ _ c.in-Ok.count c.loop-rest.invariant.1 c.in-Ok.ensures.passed refl,
)
