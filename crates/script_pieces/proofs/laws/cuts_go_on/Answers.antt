use Rattle.script_pieces.proofs.OneCut.{goes_on}
use Rattle.script_pieces.proofs.laws.cuts_go_on.Goals as goal

pub returns : goal.returns
returns c = goes_on
