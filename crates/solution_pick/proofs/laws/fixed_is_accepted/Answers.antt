use Rattle.solution_pick.proofs.FixedSolutions.{fixed_accepted}
use Rattle.solution_pick.proofs.laws.fixed_is_accepted.Goals as goal

pub returns : goal.returns
returns c = fixed_accepted
