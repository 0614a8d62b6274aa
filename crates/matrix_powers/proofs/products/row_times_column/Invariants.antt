use Rattle.std.proofs.Common.{◌^◌, ◌*ℤ◌}
use Rattle.matrix_powers.specs.Matrices.{entry}
use Rattle.matrix_powers.proofs.Adding.{IsSum}
use Rattle.matrix_powers.proofs.products.row_times_column.Given as goal

abbrev pub invariant-loop-at : goal.invariant-loop-at
invariant-loop-at l = IsSum (λ i. entry l.left l.row i *ℤ entry l.right i l.column) (2 ^ 80) l.at l.sum
