use Rattle.script_tokens.proofs.Spelling.{spelling_read}
use Rattle.script_tokens.proofs.spellings_are_read.Goals as goal

pub returns : goal.returns
returns c = spelling_read
