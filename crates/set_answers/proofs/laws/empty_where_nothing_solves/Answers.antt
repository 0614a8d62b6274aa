use Rattle.set_answers.proofs.Solved.{empty_is_written, fixed_solves}
use Rattle.set_answers.proofs.laws.empty_where_nothing_solves.Goals as goal

pub returns-clause-empty : goal.returns-clause-empty
returns-clause-empty c = empty_is_written

pub returns-clause-solution : goal.returns-clause-solution
returns-clause-solution c = fixed_solves
