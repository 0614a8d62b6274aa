use Rattle.lash_model.proofs.Scaling.{Solves-scale}
use Rattle.lash_model.proofs.sets_are_of_fractions.Goals as goal

pub returns : goal.returns
returns c = Solves-scale
