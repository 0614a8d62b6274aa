use Rattle.std.proofs.Common.{arith, ap, ◌∙◌, ◌≡◌}
use mir.Syntax.{w128}
use Rattle.std.proofs.lemmas.Int.{to_z-of_z}
use Rattle.lash_model.specs.Formulas.{coefficient_sum}
use Rattle.formula_core.specs.Terms.{added}
use Rattle.script_meaning.proofs.Coefficients.{far_below, added_within}
use Rattle.script_meaning.proofs.terms.add_at.Goals as goal

pub add-requires : goal.add-requires
add-requires c = let same = to_z-of_z w128 c.args.coefficient c.ranges.coefficient in rw same (far_below c.args.atom.now.terms c.in-Some.place c.args.coefficient c.requires.sum c.requires.coefficient)

pub returns-in-Ok-clause-sum : goal.returns-in-Ok-clause-sum
returns-in-Ok-clause-sum c =
    let same = to_z-of_z w128 c.args.coefficient c.ranges.coefficient in
    let is : coefficient_sum c.add.new.self.terms ≡ coefficient_sum (added c.args.atom.now.terms c.in-Some.place c.args.coefficient) = ap (λ a. coefficient_sum a.terms) c.in-Ok.ensures.terms ∙ ap (λ x. coefficient_sum (added c.args.atom.now.terms c.in-Some.place x)) same in
    omega (arith, is, added_within c.args.atom.now.terms c.in-Some.place c.args.coefficient, c.requires.coefficient)
