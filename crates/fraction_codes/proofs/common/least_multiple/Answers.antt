use Rattle.fraction_codes.proofs.Divisors.{least_multiple_is}
use Rattle.fraction_codes.proofs.common.least_multiple.Goals as goal

pub returns : goal.returns
returns c = least_multiple_is c.args.a c.args.b _ c.requires.first c.requires.second c.greatest_divisor.ensures.divisor
