use Rattle.graph_laws.proofs.Weighing.{not_in_two}
use Rattle.graph_laws.proofs.exploration.both_explored.Goals as goal

pub returns : goal.returns
returns c = not_in_two
