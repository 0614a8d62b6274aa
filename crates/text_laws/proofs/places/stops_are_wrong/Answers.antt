use Rattle.text_laws.proofs.Whole.{wrong_in_head, wrong_after}
use Rattle.text_laws.proofs.places.stops_are_wrong.Goals as goal

pub returns-clause-head : goal.returns-clause-head
returns-clause-head c = wrong_in_head

pub returns-clause-rest : goal.returns-clause-rest
returns-clause-rest c = wrong_after
