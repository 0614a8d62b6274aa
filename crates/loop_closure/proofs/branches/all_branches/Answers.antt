use Rattle.formula_core.specs.Shape.{formula_of}
use Rattle.loop_closure.specs.Builders.{body_in, whole_of}
use Rattle.loop_closure.proofs.Branching.{closure_joined}
use Rattle.loop_closure.proofs.branches.all_branches.Goals as goal

pub returns-in-Ok-put_longs : goal.returns-in-Ok-put_longs
returns-in-Ok-put_longs c = closure_joined c.args.builder.now.counted (body_in c.args.builder.now) c.args.builder.now.orbit.power (whole_of c.in-Ok.members) (whole_of c.in-Ok-put_longs.members) (formula_of c.settle.result) c.in-Ok.ensures c.in-Ok-put_longs.ensures c.settle.ensures
