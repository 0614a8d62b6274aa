use Rattle.script_meaning.proofs.Connecting.{always, never, negation, conjunction, disjunction, implication, equivalence}
use Rattle.script_meaning.proofs.laws.connectives_mean_themselves.Goals as goal

pub returns-clause-always : goal.returns-clause-always
returns-clause-always c = always

pub returns-clause-never : goal.returns-clause-never
returns-clause-never c = never

pub returns-clause-negation : goal.returns-clause-negation
returns-clause-negation c = negation

pub returns-clause-conjunction : goal.returns-clause-conjunction
returns-clause-conjunction c = conjunction

pub returns-clause-disjunction : goal.returns-clause-disjunction
returns-clause-disjunction c = disjunction

pub returns-clause-implication : goal.returns-clause-implication
returns-clause-implication c = implication

pub returns-clause-equivalence : goal.returns-clause-equivalence
returns-clause-equivalence c = equivalence
