use Rattle.lash_model.specs.Meaning.{Solves}
use Rattle.canonical_laws.proofs.Carrying.{agreeing_same, same_agree}
use Rattle.canonical_laws.proofs.diagrams_tell_sets.Goals as goal

pub returns-clause-equal : goal.returns-clause-equal
returns-clause-equal c = λ t u sorts f g. agreeing_same t u (Solves sorts f) (Solves sorts g)

pub returns-clause-agree : goal.returns-clause-agree
returns-clause-agree c = λ t u sorts f g. same_agree t u (Solves sorts f) (Solves sorts g)
