use Rattle.script_grammar.proofs.Answers.{nesting, nesting_back}
use Rattle.script_grammar.proofs.finds_deep_nesting.Goals as goal

pub returns : goal.returns
returns c = record { answered = nesting; found = nesting_back }
