use Rattle.graph_laws.proofs.Positions.{own_position}
use Rattle.graph_laws.proofs.exploration.paths_lead_home.Goals as goal

pub returns : goal.returns
returns c = own_position
