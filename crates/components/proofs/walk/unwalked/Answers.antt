use Rattle.std.proofs.Common.{refl}
use Rattle.components.proofs.Beginning.{unwalked_walk}
use Rattle.components.proofs.walk.unwalked.Goals as goal

pub returns-clause-walk : goal.returns-clause-walk
returns-clause-walk c =
    unwalked_walk c.args.states _ c.ranges.states.fits c.in_ok-part.ensures.count c.in_ok-part.ensures.each c.in_ok-place.ensures.count
    c.in_ok-place.ensures.each c.in_ok-next.ensures.count c.in_ok-next.ensures.each c.in_ok-order.ensures.count c.in_ok-bounds.ensures.count
    c.in_ok-path.ensures.count c.in_ok-finished.ensures.count refl refl refl refl refl
