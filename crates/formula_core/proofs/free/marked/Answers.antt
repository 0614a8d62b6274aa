-- The place is pushed exactly where it is marked.
use Rattle.std.proofs.Common.{ap, ◌∙◌}
use Rattle.formula_core.proofs.Marking.{marked_there, marked_not}
use Rattle.formula_core.proofs.free.marked.Goals as goal
use Rattle.formula_core.proofs.free.marked.Goals.{then-marked+in-Ok, else-marked}

pub loop-place-preserved : goal.loop-place-preserved
loop-place-preserved c = elim c.if-marked.branch [ then-marked+in-Ok w ↦ marked_there c.args.marks.now c.loop-place.place c.loop-place.places.items c.if-marked.places.items c.loop-place.invariant w.if-marked.true (ap (λ v. v.items) w.places-is ∙ w.in-Ok.ensures.items) | else-marked w ↦ marked_not c.args.marks.now c.loop-place.place c.loop-place.places.items c.if-marked.places.items c.loop-place.invariant w.if-marked.false (ap (λ v. v.items) w.places-is) ]
