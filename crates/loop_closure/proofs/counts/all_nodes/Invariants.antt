use Rattle.std.proofs.Common.{◌≡◌, ◌≤◌, ◌*◌, ◌^◌}
use Rattle.loop_closure.specs.Counting.{turns_nodes}
use Rattle.loop_closure.proofs.counts.all_nodes.Given as goal

abbrev pub invariant-loop-turns : goal.invariant-loop-turns
invariant-loop-turns l = (l.sum ≡ turns_nodes l.sizes l.turns) × (l.sum ≤ l.turns * 2 ^ 20)
