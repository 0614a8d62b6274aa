use Rattle.std.proofs.Common.{◌≡◌, ◌<◌, ℕ, slice_index}
use Rattle.weak_min.proofs.comparison.same_roots.Given as goal

abbrev pub invariant-loop-sign : goal.invariant-loop-sign
invariant-loop-sign l = (k : ℕ) → k < l.sign → slice_index l.left.table.roots k ≡ slice_index l.right.table.roots k
