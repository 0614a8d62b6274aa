-- The divisor is the least common denominator of the fractions so far.
use Rattle.std.proofs.Common.{◌≤◌, take}
use Rattle.fraction_codes.specs.Fractions.{IsCommonDenominator}
use Rattle.fraction_codes.proofs.common.common_denominator.Given as goal

abbrev pub invariant-loop-value : goal.invariant-loop-value
invariant-loop-value l = IsCommonDenominator (take l.value-index l.values) l.divisor × (l.divisor ≤ 65536)
