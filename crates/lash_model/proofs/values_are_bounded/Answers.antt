use Rattle.lash_model.proofs.Numbers.{value_bounded}
use Rattle.lash_model.proofs.values_are_bounded.Goals as goal

pub returns : goal.returns
returns c = value_bounded
