use Rattle.lash_model.proofs.FractionSets.{set_of_fractions}
use Rattle.lash_model.proofs.placed_sets_are_of_fractions.Goals as goal

pub returns : goal.returns
returns c = set_of_fractions
