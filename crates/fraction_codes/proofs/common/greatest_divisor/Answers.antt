-- What is the greatest common divisor of the two at hand is that of the first two.
use Rattle.std.proofs.Common.{arith}
use Rattle.fraction_codes.proofs.Divisors.{greatest_from_mod, greatest_from_zero}
use Rattle.fraction_codes.proofs.common.greatest_divisor.Goals as goal

pub loop-left-preserved : goal.loop-left-preserved
loop-left-preserved c = (λ g h. c.loop-left.invariant.0 g (greatest_from_mod _ _ g h), omega arith)

pub returns-clause-divisor : goal.returns-clause-divisor
returns-clause-divisor c = c.loop-left.invariant.0 _ (greatest_from_zero _ _ (omega arith))
