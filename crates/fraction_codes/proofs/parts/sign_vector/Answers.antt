use Rattle.std.proofs.Common.{arith}
use Rattle.fraction_codes.proofs.Counting.{signs_none, signs_small, signs_next}
use Rattle.fraction_codes.proofs.parts.sign_vector.Goals as goal

pub loop-value-init : goal.loop-value-init
loop-value-init c = signs_none

pub overflow_mul-sign : goal.overflow_mul-sign
overflow_mul-sign c = omega (arith, c.loop-value.invariant, signs_small c.args.values.now c.loop-value.value-index c.loop-value.auto.value-index-end c.requires)

pub overflow_add-sign : goal.overflow_add-sign
overflow_add-sign c = omega (arith, c.loop-value.invariant, signs_small c.args.values.now c.loop-value.value-index c.loop-value.auto.value-index-end c.requires, c.sign_of.ensures.below)

pub loop-value-preserved : goal.loop-value-preserved
loop-value-preserved c = signs_next c.args.values.now c.loop-value.value-index c.loop-value.sign c.sign_of.result _ c.loop-value-test.true c.loop-value.invariant c.sign_of.ensures.value
