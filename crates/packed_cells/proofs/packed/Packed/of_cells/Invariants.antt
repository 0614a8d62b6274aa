use Rattle.std.proofs.Common.{ℕ, ◌≡◌, ◌<◌, length, slice_index}
use Rattle.packed_cells.proofs.packed.Packed.of_cells.Given as goal

-- the first numbers were copied
abbrev pub invariant-loop-at : goal.invariant-loop-at
invariant-loop-at g l =
    (l.packed.bits ≡ l.initial.packed.bits)
    × (length l.packed.items ≡ length (g.C.Cells.items l.cells))
    × ((k : ℕ) → k < l.at → slice_index l.packed.items k ≡ slice_index (g.C.Cells.items l.cells) k)
