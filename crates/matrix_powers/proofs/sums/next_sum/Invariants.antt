use Rattle.std.proofs.Common.{◌+ℤ◌}
use Rattle.matrix_powers.specs.Orbits.{at_row}
use Rattle.matrix_powers.specs.Turns.{image_entry}
use Rattle.matrix_powers.proofs.Filling.{IsFilled}
use Rattle.matrix_powers.proofs.sums.next_sum.Given as goal

abbrev pub invariant-loop-row : goal.invariant-loop-row
invariant-loop-row l = IsFilled (λ row. at_row l.sum row +ℤ image_entry l.matrix l.shift row) l.row l.entries.items
