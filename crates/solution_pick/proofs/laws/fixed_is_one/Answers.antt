use Rattle.solution_pick.proofs.FixedSolutions.{one_lasso}
use Rattle.solution_pick.proofs.laws.fixed_is_one.Goals as goal

pub returns : goal.returns
returns c = one_lasso
