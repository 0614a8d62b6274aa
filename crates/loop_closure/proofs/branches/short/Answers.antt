use Rattle.formula_core.specs.Shape.{formula_of}
use Rattle.loop_closure.specs.Builders.{body_in, whole_of}
use Rattle.loop_closure.proofs.Branching.{short_joined}
use Rattle.loop_closure.proofs.branches.short.Goals as goal

pub returns-in-Ok-put_short_count : goal.returns-in-Ok-put_short_count
returns-in-Ok-put_short_count c = short_joined c.args.builder.now.counted (body_in c.args.builder.now) c.args.turns c.all_places-places.result (whole_of c.in-Ok.members) (whole_of c.in-Ok-put_first_guards.members) (whole_of c.in-Ok-put_short_count.members) (formula_of c.settle.result) c.all_places-places.ensures.places c.in-Ok.ensures c.in-Ok-put_first_guards.ensures c.in-Ok-put_short_count.ensures c.settle.ensures
