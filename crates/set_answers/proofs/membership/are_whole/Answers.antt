use Rattle.std.proofs.Common.{refl, arith}
use Rattle.fraction_codes.specs.Fractions.{IsWholeTimes}
use Rattle.set_answers.proofs.WholeFractions.{each_more}
use Rattle.set_answers.proofs.membership.are_whole.Goals as goal

pub loop-value-preserved : goal.loop-value-preserved
loop-value-preserved c =
    each_more (IsWholeTimes 1) c.args.values.now c.loop-value.value-index _ c.loop-value-test.true c.loop-value.invariant
    (c.is_whole.ensures.0 c.if-not-is_whole.false)

pub returns : goal.returns
returns c = (λ _ k d lt. c.loop-value.invariant k d (omega (arith, lt, c.loop-value-test.false)), λ _. refl)
