use mir.Val.{SFits}
use mir.Syntax.{w128}
use Rattle.std.proofs.Common.{◌≡◌, arith, rules, ap, ◌∙◌}
use Rattle.std.proofs.lemmas.Int.{to_z-of_z}
use Rattle.lash_model.specs.Formulas.{Linear}
use Rattle.matrix_powers.specs.Orbits.{stride}
use Rattle.loop_closure.proofs.FillingRows.{filling_fresh, late_row}
use Rattle.loop_closure.proofs.terms.late.Goals as goal

pub add_stride-requires-clause-fresh : goal.add_stride-requires-clause-fresh
add_stride-requires-clause-fresh c = filling_fresh _ c.args.builder.now.orbit.matrix.side c.args.place c.add_coefficients.new.term _ c.in-Ok.ensures.added (omega (arith, c.requires.late.enough))

pub returns-in-Ok-add_stride-clause-substitute : goal.returns-in-Ok-add_stride-clause-substitute
returns-in-Ok-add_stride-clause-substitute c =
    let fits : SFits w128 c.late_constant.result = search rules in
    let is : c.new-term.result.constant ≡ c.late_constant.result = ap (λ (t : Linear). t.constant) c.new-term.ensures ∙ to_z-of_z w128 c.late_constant.result fits in
    late_row _ c.args.builder.now.orbit.matrix.side c.args.place c.add_coefficients.new.term c.add_stride.new.term (stride c.args.builder.now.orbit.matrix c.args.builder.now.orbit.shift c.args.builder.now.orbit.power c.args.remainder c.args.row) c.new-term.result.constant c.in-Ok.ensures.added c.in-Ok-add_stride.ensures.added c.in-Ok.ensures.small (omega (arith, c.requires.late.enough)) c.in-Ok-add_stride.ensures.small
    (rw is c.late_constant.ensures.small)
