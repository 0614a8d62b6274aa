use Rattle.fraction_codes.proofs.Denominators.{reduced_from}
use Rattle.fraction_codes.proofs.common.reduced_denominator.Goals as goal

pub returns : goal.returns
returns c = reduced_from c.args.value.now _ _ _ c.requires c.num_magnitude.ensures c.denominator-den.ensures.value c.greatest_divisor.ensures.divisor
