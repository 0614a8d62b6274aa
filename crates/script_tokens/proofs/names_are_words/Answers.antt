use Rattle.script_tokens.proofs.Naming.{are_named}
use Rattle.script_tokens.proofs.names_are_words.Goals as goal

pub returns : goal.returns
returns c = are_named
