use Rattle.marked_laws.proofs.NoWeak.{no_weak_beside}
use Rattle.marked_laws.proofs.weakening.torn_or_weak_form.Goals as goal

pub returns : goal.returns
returns c = λ t u h. no_weak_beside t u
