use Rattle.graph_laws.proofs.Weighing.{heavy_at_second}
use Rattle.graph_laws.proofs.exploration.second_of_two.Goals as goal

pub returns : goal.returns
returns c = heavy_at_second
