use Rattle.std.proofs.Common.{◌^◌, ◌*ℤ◌}
use Rattle.matrix_powers.specs.Matrices.{entry}
use Rattle.matrix_powers.specs.Orbits.{at_row}
use Rattle.matrix_powers.proofs.Adding.{IsSum}
use Rattle.matrix_powers.proofs.sums.image_row.Given as goal

abbrev pub invariant-loop-at : goal.invariant-loop-at
invariant-loop-at l = IsSum (λ i. entry l.matrix l.row i *ℤ at_row l.shift i) (2 ^ 80) l.at l.sum
