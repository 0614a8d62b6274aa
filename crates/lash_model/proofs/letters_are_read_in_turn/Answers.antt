use Rattle.lash_model.proofs.WordValues.{value-push}
use Rattle.lash_model.proofs.letters_are_read_in_turn.Goals as goal

pub returns : goal.returns
returns c = value-push
