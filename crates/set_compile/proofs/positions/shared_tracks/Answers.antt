use Rattle.std.proofs.Common.{◌≡◌, length, ap, ◌∙◌, arith}
use Rattle.formula_core.specs.Counts.{uses, free_places}
use Rattle.formula_core.specs.Shape.{formula_of}
use Rattle.set_compile.proofs.Places.{tracks_are}
use Rattle.set_compile.proofs.Spreading.{at_most_all}
use Rattle.set_compile.proofs.positions.shared_tracks.Goals as goal

pub positions-requires : goal.positions-requires
positions-requires c = omega (arith, ap length (c.deref.ensures.value ∙ c.in-Ok.ensures.places), at_most_all (λ p. uses p (formula_of c.args.whole.now)) 0 c.args.places, c.ranges.places.fits)

pub positions-requires-2 : goal.positions-requires-2
positions-requires-2 c = omega (arith, ap length (c.deref-3.ensures.value ∙ c.in-Ok.ensures.places), at_most_all (λ p. uses p (formula_of c.args.whole.now)) 0 c.args.places, c.ranges.places.fits)

pub overflow_cast-len : goal.overflow_cast-len
overflow_cast-len c = omega (arith, c.len.ensures, ap length c.in-Ok.ensures.places, at_most_all (λ p. uses p (formula_of c.args.whole.now)) 0 c.args.places, c.ranges.places.fits)

pub new-requires-clause-left : goal.new-requires-clause-left
new-requires-clause-left c =
    let count : c.len.result ≡ length (free_places (formula_of c.args.whole.now) c.args.places) = omega (arith, c.len.ensures, ap length c.in-Ok.ensures.places) in
    tracks_are (formula_of c.args.whole.now) (formula_of c.args.left.now) c.args.places c.len.result c.deref.result.now c.deref-2.result.now c.in-Ok-positions.lefts.items c.requires.left (c.deref.ensures.value ∙ c.in-Ok.ensures.places) (c.deref-2.ensures.value ∙ c.in-Ok-free_vars.ensures.places) count c.in-Ok-positions.ensures

pub new-requires-clause-right : goal.new-requires-clause-right
new-requires-clause-right c =
    let count : c.len.result ≡ length (free_places (formula_of c.args.whole.now) c.args.places) = omega (arith, c.len.ensures, ap length c.in-Ok.ensures.places) in
    tracks_are (formula_of c.args.whole.now) (formula_of c.args.right.now) c.args.places c.len.result c.deref-3.result.now c.deref-4.result.now c.in-Ok-positions-2.rights.items c.requires.right (c.deref-3.ensures.value ∙ c.in-Ok.ensures.places) (c.deref-4.ensures.value ∙ c.in-Ok-free_vars-2.ensures.places) count c.in-Ok-positions-2.ensures
