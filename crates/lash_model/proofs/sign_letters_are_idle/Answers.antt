use Rattle.lash_model.proofs.Numbers.{value-padded}
use Rattle.lash_model.proofs.sign_letters_are_idle.Goals as goal

pub returns : goal.returns
returns c = value-padded
