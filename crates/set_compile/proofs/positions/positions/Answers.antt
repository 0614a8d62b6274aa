use Rattle.std.proofs.Common.{◌∙◌}
use Rattle.set_compile.proofs.Places.{positions_more}
use Rattle.set_compile.proofs.positions.positions.Goals as goal

pub loop-place-preserved : goal.loop-place-preserved
loop-place-preserved c = c.in-Ok.ensures.items ∙ positions_more c.args.within.now c.args.places.now c.loop-place.found.items c.loop-place.place-index c.position.result c.loop-place-test.true c.loop-place.invariant c.position.ensures
