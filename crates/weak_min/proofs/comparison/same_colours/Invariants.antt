use Rattle.std.proofs.Common.{◌≡◌, ◌<◌, ℕ, slice_index}
use Rattle.weak_min.proofs.comparison.same_colours.Given as goal

abbrev pub invariant-loop-state : goal.invariant-loop-state
invariant-loop-state l = (k : ℕ) → k < l.state → slice_index l.left.table.colours k ≡ slice_index l.right.table.colours k
