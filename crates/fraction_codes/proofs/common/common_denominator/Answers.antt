-- The divisor is the least common denominator of the fractions so far.
use Rattle.std.proofs.Common.{◌+◌, arith}
use Rattle.fraction_codes.proofs.Denominators.{common_none, common_taken, too_fine_taken}
use Rattle.fraction_codes.proofs.common.common_denominator.Goals as goal

pub loop-value-init : goal.loop-value-init
loop-value-init c = (common_none, omega arith)

pub loop-value-preserved : goal.loop-value-preserved
loop-value-preserved c = (
  common_taken c.args.values.now c.loop-value.value-index _ _ _ _ c.loop-value-test.true c.loop-value.invariant.0 c.reduced_denominator.ensures c.least_multiple-divisor.ensures,
  c.if-divisor-gt-MAX_DENOMINATOR.false,
)

pub returns-then-divisor-gt-MAX_DENOMINATOR-clause-none : goal.returns-then-divisor-gt-MAX_DENOMINATOR-clause-none
returns-then-divisor-gt-MAX_DENOMINATOR-clause-none c =
    too_fine_taken c.args.values.now (c.loop-value.value-index + 1) c.least_multiple-divisor.result (common_taken c.args.values.now c.loop-value.value-index _ _ _ _ c.loop-value-test.true c.loop-value.invariant.0 c.reduced_denominator.ensures c.least_multiple-divisor.ensures) c.requires c.if-divisor-gt-MAX_DENOMINATOR.true
