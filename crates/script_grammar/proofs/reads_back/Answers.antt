use Rattle.script_grammar.proofs.Answers.{read_back}
use Rattle.script_grammar.proofs.reads_back.Goals as goal

pub returns : goal.returns
returns c = read_back
