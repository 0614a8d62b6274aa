use Rattle.script_parse.proofs.Excluding.{asked_or_refused, fit_or_refused, one_shape, refusals_are_one}
use Rattle.script_parse.proofs.laws.answers_exclude_each_other.Goals as goal

pub returns-clause-asked : goal.returns-clause-asked
returns-clause-asked c = asked_or_refused

pub returns-clause-refused : goal.returns-clause-refused
returns-clause-refused c = refusals_are_one

pub returns-clause-fit : goal.returns-clause-fit
returns-clause-fit c = fit_or_refused

pub returns-clause-shape : goal.returns-clause-shape
returns-clause-shape c = one_shape
