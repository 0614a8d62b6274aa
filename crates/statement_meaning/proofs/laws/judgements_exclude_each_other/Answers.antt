use Rattle.statement_meaning.proofs.Excluding.{judged_or_refused, one_asked, refusals_are_one}
use Rattle.statement_meaning.proofs.laws.judgements_exclude_each_other.Goals as goal

pub returns-clause-judged : goal.returns-clause-judged
returns-clause-judged c = judged_or_refused

pub returns-clause-asked : goal.returns-clause-asked
returns-clause-asked c = one_asked

pub returns-clause-refused : goal.returns-clause-refused
returns-clause-refused c = refusals_are_one
