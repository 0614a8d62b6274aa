use Rattle.fraction_codes.proofs.Existing.{has_lasso}
use Rattle.fraction_codes.proofs.laws.vectors_have_lassos.Goals as goal

pub returns : goal.returns
returns c = has_lasso
