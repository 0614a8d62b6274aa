use Rattle.lash_model.proofs.WordValues.{value_is_run}
use Rattle.lash_model.proofs.values_are_runs.Goals as goal

pub returns : goal.returns
returns c = value_is_run
