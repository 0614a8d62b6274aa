use Rattle.std.proofs.Common.{rules, ap, ◌∙◌, arith}
use mir.Val.{SFits}
use mir.Syntax.{w128}
use Rattle.std.proofs.lemmas.Int.{to_z-of_z}
use Rattle.lash_model.specs.Formulas.{coefficient_sum}
use Rattle.script_syntax.specs.Trees.{term_of}
use Rattle.script_meaning.proofs.Coefficients.{none_is_zero}
use Rattle.script_meaning.proofs.Calling.{argument_is_substitute, argument_constant}
use Rattle.script_meaning.proofs.calls.argument.Goals as goal

pub add_term-requires-clause-sum : goal.add_term-requires-clause-sum
add_term-requires-clause-sum c = let is = ap (λ a. coefficient_sum a.terms) c.new-linear.ensures in omega (arith, is, none_is_zero)

pub returns-in-Ok-clause-substitute : goal.returns-in-Ok-clause-substitute
returns-in-Ok-clause-substitute c =
    let fits : SFits w128 c.constant.result = search rules in
    let stored = ap (λ a. a.constant) c.new-linear.ensures ∙ to_z-of_z w128 c.constant.result fits in
    let is = ap (λ a. coefficient_sum a.terms) c.new-linear.ensures in
    argument_is_substitute c.args.scope.now (term_of c.args.term.now) c.add_term.new.atom (search rules) (omega (arith, is, none_is_zero, c.in-Ok.ensures.sum, c.requires.count)) (argument_constant c.add_term.new.atom c.new-linear.result.constant c.constant.result (ap (λ a. a.constant) c.in-Ok.ensures.added) stored c.constant.ensures.small)
