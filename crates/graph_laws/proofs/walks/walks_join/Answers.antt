use Rattle.graph_laws.proofs.Joining.{go-append}
use Rattle.graph_laws.proofs.walks.walks_join.Goals as goal

pub returns : goal.returns
returns c = go-append
