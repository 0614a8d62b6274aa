use Rattle.least_paths.specs.Arrivals.{AreParents}
use Rattle.least_paths.proofs.parents.parents_of.Given as goal

abbrev pub invariant-loop-state : goal.invariant-loop-state
invariant-loop-state g l = AreParents (g.G.Graph.net l.graph) l.state 0 l.parents.items
