use Rattle.integer_laws.proofs.Reading.{run-append}
use Rattle.integer_laws.proofs.Reading.{run-shift}
use Rattle.integer_laws.proofs.runs_join_and_shift.Goals as goal

pub returns-clause-join : goal.returns-clause-join
returns-clause-join c = run-append

pub returns-clause-shift : goal.returns-clause-shift
returns-clause-shift c = run-shift
