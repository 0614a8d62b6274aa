use Rattle.graph_laws.proofs.Weighing.{no_heavy_on_states}
use Rattle.graph_laws.proofs.exploration.no_heavy_on_states.Goals as goal

pub returns : goal.returns
returns c = no_heavy_on_states
