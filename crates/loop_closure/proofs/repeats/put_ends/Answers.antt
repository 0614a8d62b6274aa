use Rattle.formula_core.specs.Shape.{formula_of}
use Rattle.lash_model.specs.Formulas.{And}
use Rattle.loop_closure.specs.Builders.{whole_of}
use Rattle.loop_closure.proofs.Joining.{joined_two}
use Rattle.loop_closure.proofs.repeats.put_ends.Goals as goal

pub returns-in-Ok-put-2 : goal.returns-in-Ok-put-2
returns-in-Ok-put-2 c = joined_two And (whole_of c.args.whole) (whole_of c.in-Ok-put.members) (whole_of c.in-Ok-put-2.more) (formula_of c.in-Ok.first) (formula_of c.in-Ok-guard_late.last) _ _ c.in-Ok-put.ensures c.in-Ok.ensures c.in-Ok-put-2.ensures c.in-Ok-guard_late.ensures
