use Rattle.script_meaning.proofs.CallValues.{call_asks}
use Rattle.script_meaning.proofs.laws.calls_ask_the_kept_set.Goals as goal

pub returns : goal.returns
returns c = call_asks
