use Rattle.std.proofs.Common.{arith, length}
use Rattle.product_ops.proofs.TestTables.{small_shape}
use Rattle.product_ops.proofs.tests.weak.table_of.Goals as goal

pub blank-requires : goal.blank-requires
blank-requires g c = record {
  shape = small_shape c.args.base (length c.args.lists.now.outs.now) (length c.args.lists.now.colours.now) (omega arith) (omega arith) (omega arith) (omega arith) (omega arith);
}
