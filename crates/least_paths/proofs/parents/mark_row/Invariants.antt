use Rattle.std.proofs.Common.{◌+◌}
use Rattle.least_paths.specs.Arrivals.{AreParents}
use Rattle.least_paths.proofs.parents.mark_row.Given as goal

abbrev pub invariant-loop-letter : goal.invariant-loop-letter
invariant-loop-letter g l = AreParents (g.G.Graph.net l.graph) (l.state + 1) l.letter l.parents.items
