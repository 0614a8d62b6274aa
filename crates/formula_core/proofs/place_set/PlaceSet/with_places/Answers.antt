-- The places are put in one by one.
use Rattle.std.proofs.Common.{◌+◌, None, Some, take, arith, ◌||◌, nat_eq}
use Rattle.std.specs.Set.{is_member}
use Rattle.formula_core.proofs.Walking.{places_more, places_none, places_all}
use Rattle.formula_core.proofs.place_set.PlaceSet.with_places.Goals as goal

pub returns-in-None : goal.returns-in-None
returns-in-None c test n e h = places_none test n c.args.places.now (c.loop-place.place-index + 1) (places_more test n c.args.places.now c.loop-place.place-index 0 None c.loop-place-test.true (c.in-None.ensures (λ k. test k || is_member nat_eq (take c.loop-place.place-index c.args.places.now) k) n e (c.loop-place.invariant test n e h)))

pub loop-place-preserved : goal.loop-place-preserved
loop-place-preserved c test n e h = places_more test n c.args.places.now c.loop-place.place-index 0 (Some c.in-Some.more) c.loop-place-test.true (c.in-Some.ensures (λ k. test k || is_member nat_eq (take c.loop-place.place-index c.args.places.now) k) n e (c.loop-place.invariant test n e h))

pub returns : goal.returns
returns c test n e h = places_all test n c.args.places.now c.loop-place.place-index c.loop-place.set (omega arith) (c.loop-place.invariant test n e h)
