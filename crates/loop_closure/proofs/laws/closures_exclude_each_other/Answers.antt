use Rattle.loop_closure.proofs.Excluding.{closed_alone, one_error}
use Rattle.loop_closure.proofs.laws.closures_exclude_each_other.Goals as goal

pub returns-clause-closed : goal.returns-clause-closed
returns-clause-closed c = closed_alone

pub returns-clause-cause : goal.returns-clause-cause
returns-clause-cause c = one_error
