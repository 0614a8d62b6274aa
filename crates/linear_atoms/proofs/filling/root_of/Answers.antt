use Rattle.std.proofs.Common.{rules, arith, ◌≡◌, ◌≤◌, ◌^◌, ap, ◌∙◌, sym, subst}
use Rattle.std.proofs.Math.IntN.{ℤ, neg_ℤ}
use mir.Val.{SFits}
use mir.Syntax.{w128}
use Rattle.std.proofs.lemmas.Int.{to_z-of_z}
use Rattle.threshold_laws.specs.Thresholds.{below, letter_total}
use Rattle.linear_atoms.proofs.FillingSteps.{few_signs, sign_total_by_digits}
use Rattle.linear_atoms.proofs.filling.root_of.Goals as goal

pub returns-clause-value : goal.returns-clause-value
returns-clause-value c =
    let fits : SFits w128 c.negated.result = search rules in
    let total_fits : SFits w128 c.digits_total-total.result = search rules in
    c.count_below.ensures.value
    ∙ ap (below c.args.plan.now.thresholds.now) (to_z-of_z w128 c.negated.result fits ∙ c.negated.ensures ∙ ap neg_ℤ (to_z-of_z w128 c.digits_total-total.result total_fits ∙ c.digits_total-total.ensures.total ∙ ap (λ b. letter_total c.args.plan.now.atom.now.terms b c.args.plan.now.tracks c.args.sign) c.binary.ensures ∙ sign_total_by_digits c.args.plan.now.atom.now.terms c.args.plan.now.tracks c.args.sign))

pub digits_total-total-requires-clause-few : goal.digits_total-total-requires-clause-few
digits_total-total-requires-clause-few c = subst (λ b. b ^ c.args.plan.now.tracks ≤ 4096) (sym c.binary.ensures) (few_signs c.args.plan.now.base c.args.plan.now.tracks c.requires.plan.low c.requires.plan.few_letters)
