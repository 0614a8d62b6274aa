use Rattle.std.proofs.Common.{arith, length}
use Rattle.product_ops.proofs.TestTables.{small_shape}
use Rattle.set_answers.proofs.tests.real.filled.Goals as goal

pub blank-requires : goal.blank-requires
blank-requires g c = record {
  shape = small_shape c.args.two (length c.args.rows.now.ints.now) (length c.args.rows.now.fractions.now) (omega arith) (omega arith) (omega arith)
      (omega arith) (omega arith);
}
