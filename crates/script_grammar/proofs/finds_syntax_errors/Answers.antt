use Rattle.script_grammar.proofs.Answers.{syntax, syntax_back}
use Rattle.script_grammar.proofs.finds_syntax_errors.Goals as goal

pub returns : goal.returns
returns c = record { answered = syntax; found = syntax_back }
