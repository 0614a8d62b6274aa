use Rattle.solution_pick.proofs.FixedSolutions.{not_both_kinds}
use Rattle.solution_pick.proofs.laws.none_or_fixed.Goals as goal

pub returns : goal.returns
returns c = not_both_kinds
