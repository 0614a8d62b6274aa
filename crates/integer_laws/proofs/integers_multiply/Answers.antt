use Rattle.integer_laws.proofs.Ring.{times_comm}
use Rattle.integer_laws.proofs.Ring.{times_assoc}
use Rattle.integer_laws.proofs.Ring.{times_sum}
use Rattle.integer_laws.proofs.integers_multiply.Goals as goal

pub returns-clause-commute : goal.returns-clause-commute
returns-clause-commute c = times_comm

pub returns-clause-associate : goal.returns-clause-associate
returns-clause-associate c = times_assoc

pub returns-clause-distribute : goal.returns-clause-distribute
returns-clause-distribute c = times_sum
