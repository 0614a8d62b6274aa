use Rattle.std.proofs.Common.{◌/◌, ◌%◌, nat_eq}
use Rattle.matrix_powers.specs.Matrices.{one_where}
use Rattle.matrix_powers.proofs.Filling.{IsFilled}
use Rattle.matrix_powers.proofs.matrix.Matrix.identity.Given as goal

abbrev pub invariant-loop-at : goal.invariant-loop-at
invariant-loop-at l = IsFilled (λ j. one_where (nat_eq (j / l.side) (j % l.side))) l.at l.entries.items
