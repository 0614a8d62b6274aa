use mir.Val.{SFits}
use mir.Syntax.{w128}
use Rattle.std.proofs.Common.{◌≡◌, arith, rules, ap, ◌∙◌}
use Rattle.std.proofs.lemmas.Int.{to_z-of_z}
use Rattle.lash_model.specs.Formulas.{Linear}
use Rattle.matrix_powers.specs.Matrices.{power_entry}
use Rattle.loop_closure.proofs.FillingRows.{early_row}
use Rattle.loop_closure.proofs.terms.early.Goals as goal

pub returns-in-Ok-clause-substitute : goal.returns-in-Ok-clause-substitute
returns-in-Ok-clause-substitute c =
    let fits : SFits w128 c.constant.result = search rules in
    let is : c.new-term.result.constant ≡ c.constant.result = ap (λ (t : Linear). t.constant) c.new-term.ensures ∙ to_z-of_z w128 c.constant.result fits in
    early_row (power_entry c.args.builder.now.orbit.matrix c.args.turns c.args.row) c.args.builder.now.orbit.matrix.side c.add_coefficients.new.term c.new-term.result.constant c.in-Ok.ensures.added c.in-Ok.ensures.small
    (rw is (omega (arith, c.constant.ensures.small, c.requires.turns, c.requires.builder.powers)))
