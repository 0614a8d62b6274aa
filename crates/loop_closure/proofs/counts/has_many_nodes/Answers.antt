use Rattle.std.proofs.Common.{arith}
use Rattle.loop_closure.specs.Bodies.{body_of}
use Rattle.loop_closure.proofs.NodeCounts.{many_nodes}
use Rattle.loop_closure.proofs.counts.has_many_nodes.Goals as goal

pub returns-clause-nodes : goal.returns-clause-nodes
returns-clause-nodes c = many_nodes c.args.counted (body_of c.args.body.now) c.args.power c.nodes.result c.side.result c.count_nodes.result c.all_nodes.result c.side.ensures.square.some c.requires.some (omega (arith, c.nodes.ensures, c.requires.body.nodes)) c.side.ensures.value c.count_nodes.ensures c.all_nodes.ensures
