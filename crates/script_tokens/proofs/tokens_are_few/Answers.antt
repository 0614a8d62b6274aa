use Rattle.script_tokens.proofs.Few.{few}
use Rattle.script_tokens.proofs.tokens_are_few.Goals as goal

pub returns : goal.returns
returns c = few
