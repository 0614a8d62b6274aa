use Rattle.std.proofs.Common.{arith, nat_eq}
use Rattle.matrix_powers.specs.Matrices.{one_where}
use Rattle.matrix_powers.proofs.Filling.{filled_row}
use Rattle.matrix_powers.proofs.matrix.Matrix.identity.Goals as goal

pub returns-clause-entries : goal.returns-clause-entries
returns-clause-entries c = filled_row (λ row column. one_where (nat_eq row column)) c.args.side c.loop-at.at c.loop-at.entries.items c.loop-at.invariant (omega arith)
