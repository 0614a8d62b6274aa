use mir.Val.{SFits}
use mir.Syntax.{w128}
use Rattle.std.proofs.Common.{rules, ap, ◌∙◌, unsigned_abs}
use Rattle.std.proofs.lemmas.Int.{to_z-of_z}
use Rattle.set_answers.proofs.WholeFractions.{whole_test}
use Rattle.set_answers.proofs.membership.is_whole.Goals as goal

pub returns : goal.returns
returns c =
    let num : SFits w128 c.args.value.now.num = search rules in
    let den : SFits w128 c.args.value.now.den = search rules in
    whole_test c.args.value.now c.unsigned_abs.result c.unsigned_abs-2.result (c.unsigned_abs.ensures.value ∙ ap unsigned_abs (to_z-of_z w128 c.args.value.now.num num)) (c.unsigned_abs-2.ensures.value ∙ ap unsigned_abs (to_z-of_z w128 c.args.value.now.den den))
