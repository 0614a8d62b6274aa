use Rattle.graph_laws.proofs.Positions.{positions_follow}
use Rattle.graph_laws.proofs.exploration.positions_follow_keys.Goals as goal

pub returns : goal.returns
returns c = positions_follow
