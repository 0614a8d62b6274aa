use Rattle.script_statements.proofs.WholeStatements.{one}
use Rattle.script_statements.proofs.reading.one_outcome.Goals as goal

pub returns : goal.returns
returns c = one
