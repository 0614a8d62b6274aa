use Rattle.script_pieces.proofs.OneCut.{is_cut, unique}
use Rattle.script_pieces.proofs.laws.bytes_have_one_cut.Goals as goal

pub returns-clause-cut : goal.returns-clause-cut
returns-clause-cut c = is_cut

pub returns-clause-unique : goal.returns-clause-unique
returns-clause-unique c = unique
