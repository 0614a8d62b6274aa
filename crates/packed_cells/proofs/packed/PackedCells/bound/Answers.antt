use Rattle.std.proofs.Common.{rules, sym}
use Rattle.std.proofs.Math.Nat.{pow-le-pow_right}
use Rattle.packed_cells.proofs.packed.PackedCells.bound.Goals as goal

pub returns-clause-low : goal.returns-clause-low
returns-clause-low c = rw (sym c.self.view_is) (pow-le-pow_right {n = 2} (search rules) {i = 1} {j = c.self.inside.bits} c.self.invariant.low)
