use Rattle.graph_laws.proofs.Weighing.{not_both}
use Rattle.graph_laws.proofs.exploration.heavy_or_explored.Goals as goal

pub returns : goal.returns
returns c = not_both
