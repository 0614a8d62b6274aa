use Rattle.std.proofs.Common.{arith, ap, sym}
use Rattle.std.proofs.lemmas.Bool.{lt-ltb, le-ltb}
use Rattle.lash_model.specs.Formulas.{coefficient_sum}
use Rattle.term_substitution.proofs.Magnitudes.{sum_from, sum_behind}
use Rattle.term_substitution.proofs.judging.great_coefficients.Goals as goal

pub loop-term-preserved : goal.loop-term-preserved
loop-term-preserved c = (omega (arith, c.loop-term.invariant.0, sum_from c.terms-term-items.result.now c.loop-term.term-index _ c.magnitude-sum.result c.loop-term-test.true c.magnitude-sum.ensures.value), c.if-sum.false)

pub returns-then-sum : goal.returns-then-sum
returns-then-sum c = sym (lt-ltb _ _ (omega (arith, c.if-sum.true, c.loop-term.invariant.0, sum_from c.terms-term-items.result.now c.loop-term.term-index _ c.magnitude-sum.result c.loop-term-test.true c.magnitude-sum.ensures.value, ap coefficient_sum c.terms-term-items.ensures.terms)))

pub returns : goal.returns
returns c = sym (le-ltb _ _ (omega (arith, c.loop-term.invariant.0, c.loop-term.invariant.1, sum_behind c.terms-term-items.result.now c.loop-term.term-index c.loop-term-test.false, ap coefficient_sum c.terms-term-items.ensures.terms)))
