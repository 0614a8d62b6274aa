use Rattle.set_answers.proofs.Solved.{one_answer}
use Rattle.set_answers.proofs.laws.answers_are_unique.Goals as goal

pub returns : goal.returns
returns c = one_answer
