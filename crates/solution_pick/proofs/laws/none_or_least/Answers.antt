use Rattle.solution_pick.proofs.Accepted.{not_both}
use Rattle.solution_pick.proofs.laws.none_or_least.Goals as goal

pub returns : goal.returns
returns c = not_both
