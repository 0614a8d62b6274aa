use Rattle.std.proofs.Common.{[], ◌∷◌, None}
use Rattle.formula_core.specs.Shape.{formula_of}
use Rattle.lash_model.specs.Formulas.{And, Or}
use Rattle.loop_laws.specs.Closures.{joined, short}
use Rattle.loop_closure.specs.Builders.{body_in, whole_of}
use Rattle.loop_closure.proofs.Joining.{joined_none, joined_one}
use Rattle.loop_closure.proofs.branches.put_shorts.Goals as goal

pub loop-turns-init : goal.loop-turns-init
loop-turns-init c = joined_none Or (λ i. joined And (short c.args.builder.now.counted (body_in c.args.builder.now) i) ∷ []) None

pub loop-turns-preserved : goal.loop-turns-preserved
loop-turns-preserved c = joined_one Or (λ i. joined And (short c.args.builder.now.counted (body_in c.args.builder.now) i)) None (whole_of c.loop-turns.members) (whole_of c.in-Ok-put.more) c.loop-turns.turns (formula_of c.in-Ok.formula) c.loop-turns.invariant c.in-Ok.ensures c.in-Ok-put.ensures
