use Rattle.std.proofs.Common.{◌≡◌, ℕ, ◌<◌, slice_index}
use Rattle.least_paths.proofs.scans.first_start.Given as goal

abbrev pub invariant-loop-start : goal.invariant-loop-start
invariant-loop-start g l = (other : ℕ) → other < l.start → slice_index (g.G.Graph.net l.graph).starts other ≡ l.state → ⊥
