use Rattle.script_tokens.proofs.Longest.{longest}
use Rattle.script_tokens.proofs.takes_the_longest_sign.Goals as goal

pub returns : goal.returns
returns c = longest
