use Rattle.std.proofs.Common.{arith}
use Rattle.loop_closure.proofs.NodeCounts.{no_turns, turns_more}
use Rattle.loop_closure.proofs.counts.all_nodes.Goals as goal

pub loop-turns-init : goal.loop-turns-init
loop-turns-init c = (no_turns c.args.sizes, omega arith)

pub loop-turns-preserved : goal.loop-turns-preserved
loop-turns-preserved c = (turns_more c.args.sizes c.loop-turns.turns c.loop-turns.sum c.turn_nodes-sum.result c.loop-turns.invariant.0 c.turn_nodes-sum.ensures.value, omega (arith, c.loop-turns.invariant.1, c.turn_nodes-sum.ensures.small))
