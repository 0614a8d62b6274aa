use Rattle.std.proofs.Common.{ℕ, ◌<◌, ◌≤◌, All, slice_index}
use Rattle.packed_cells.proofs.least.largest.Given as goal

-- the numbers so far are at most the one that was found, which is no larger than it must be
abbrev pub invariant-loop-at : goal.invariant-loop-at
invariant-loop-at g l =
    ((k : ℕ) → k < l.at → slice_index (g.C.Cells.items l.cells) k ≤ l.found)
    × ((m : ℕ) → All (λ n. n ≤ m) (g.C.Cells.items l.cells) → l.found ≤ m)
