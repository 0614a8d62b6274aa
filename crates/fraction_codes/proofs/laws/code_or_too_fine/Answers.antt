use Rattle.fraction_codes.proofs.Excluding.{not_both}
use Rattle.fraction_codes.proofs.laws.code_or_too_fine.Goals as goal

pub returns : goal.returns
returns c = not_both
