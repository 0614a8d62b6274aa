use Rattle.set_answers.proofs.Agreeing.{texts_equal, sets_agree}
use Rattle.set_answers.proofs.laws.texts_are_equal_where_sets_agree.Goals as goal

pub returns-clause-equal : goal.returns-clause-equal
returns-clause-equal c = texts_equal

pub returns-clause-agree : goal.returns-clause-agree
returns-clause-agree c = sets_agree
