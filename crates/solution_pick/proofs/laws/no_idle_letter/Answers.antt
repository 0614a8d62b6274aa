use Rattle.lash_model.specs.Meaning.{Solves}
use Rattle.solution_pick.proofs.IdleLetters.{not_idle}
use Rattle.solution_pick.proofs.laws.no_idle_letter.Goals as goal

pub returns : goal.returns
returns c = λ t sorts f. not_idle t (Solves sorts f)
