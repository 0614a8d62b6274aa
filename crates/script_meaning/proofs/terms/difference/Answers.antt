use Rattle.std.proofs.Common.{arith, ap}
use Rattle.lash_model.specs.Formulas.{coefficient_sum}
use Rattle.script_meaning.proofs.Coefficients.{none_is_zero}
use Rattle.script_meaning.proofs.terms.difference.Goals as goal

pub add_term-requires-clause-sum : goal.add_term-requires-clause-sum
add_term-requires-clause-sum c = let is = ap (λ a. coefficient_sum a.terms) c.new-atom.ensures in omega (arith, is, none_is_zero)

pub add_term-requires-2-clause-sum : goal.add_term-requires-2-clause-sum
add_term-requires-2-clause-sum c = let is = ap (λ a. coefficient_sum a.terms) c.new-atom.ensures in omega (arith, is, none_is_zero, c.in-Ok.ensures.sum, c.requires.left_count)
