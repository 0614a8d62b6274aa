use Rattle.std.proofs.Common.{◌+◌, [], ◌∷◌}
use Rattle.formula_core.specs.Shape.{formula_of}
use Rattle.lash_model.specs.Formulas.{And}
use Rattle.loop_laws.specs.Closures.{equation}
use Rattle.loop_closure.specs.Builders.{stage_places, stage_term, whole_of}
use Rattle.loop_closure.proofs.Joining.{joined_none, joined_one}
use Rattle.loop_closure.proofs.parts.put_equations.Goals as goal

pub loop-row-init : goal.loop-row-init
loop-row-init c = joined_none And (λ row. equation (c.args.builder.now.orbit.matrix.side + row) (stage_term c.args.builder.now c.args.stage row) (stage_places c.args.stage) ∷ []) (whole_of c.args.whole)

pub loop-row-preserved : goal.loop-row-preserved
loop-row-preserved c = joined_one And (λ row. equation (c.args.builder.now.orbit.matrix.side + row) (stage_term c.args.builder.now c.args.stage row) (stage_places c.args.stage)) (whole_of c.args.whole) (whole_of c.loop-row.members) (whole_of c.in-Ok-put.more) c.loop-row.row (formula_of c.in-Ok.formula) c.loop-row.invariant c.in-Ok.ensures c.in-Ok-put.ensures
