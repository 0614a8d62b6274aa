use Rattle.script_grammar.proofs.Answers.{read}
use Rattle.script_grammar.proofs.reads_statements.Goals as goal

pub returns : goal.returns
returns c = read
