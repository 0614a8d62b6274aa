use Rattle.std.proofs.Common.{[], ◌∷◌}
use Rattle.formula_core.specs.Shape.{formula_of}
use Rattle.lash_model.specs.Formulas.{And, Exists, Int, Or}
use Rattle.loop_laws.specs.Closures.{joined, long}
use Rattle.loop_closure.specs.Builders.{body_in, whole_of}
use Rattle.loop_closure.proofs.Joining.{joined_none, joined_one}
use Rattle.loop_closure.proofs.branches.put_longs.Goals as goal

pub loop-remainder-init : goal.loop-remainder-init
loop-remainder-init c = joined_none Or (λ i. Exists Int (joined And (long c.args.builder.now.counted (body_in c.args.builder.now) c.args.builder.now.orbit.power i)) ∷ []) (whole_of c.args.whole)

pub loop-remainder-preserved : goal.loop-remainder-preserved
loop-remainder-preserved c = joined_one Or (λ i. Exists Int (joined And (long c.args.builder.now.counted (body_in c.args.builder.now) c.args.builder.now.orbit.power i))) (whole_of c.args.whole) (whole_of c.loop-remainder.members) (whole_of c.in-Ok-put.more) c.loop-remainder.remainder (formula_of c.in-Ok.formula) c.loop-remainder.invariant c.in-Ok.ensures c.in-Ok-put.ensures
