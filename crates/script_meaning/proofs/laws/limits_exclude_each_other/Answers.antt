use Rattle.script_meaning.proofs.Connecting.{within_or_passed, one_passed}
use Rattle.script_meaning.proofs.laws.limits_exclude_each_other.Goals as goal

pub returns-clause-none : goal.returns-clause-none
returns-clause-none c = within_or_passed

pub returns-clause-one : goal.returns-clause-one
returns-clause-one c = one_passed
