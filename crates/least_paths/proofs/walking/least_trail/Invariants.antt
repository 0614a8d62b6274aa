use Rattle.least_paths.proofs.Walked.{IsWalking}
use Rattle.least_paths.proofs.walking.least_trail.Given as goal

abbrev pub invariant-loop-start : goal.invariant-loop-start
invariant-loop-start g l = IsWalking (g.G.Graph.net l.graph) l.state l.at l.letters.items

abbrev pub decreases-loop-start : goal.decreases-loop-start
decreases-loop-start g l = l.at
