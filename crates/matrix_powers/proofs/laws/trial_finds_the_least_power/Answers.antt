use Rattle.matrix_powers.proofs.Trying.{least_is_found}
use Rattle.matrix_powers.proofs.laws.trial_finds_the_least_power.Goals as goal

pub returns : goal.returns
returns c = least_is_found
