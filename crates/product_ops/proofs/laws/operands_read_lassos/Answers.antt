use Rattle.product_ops.proofs.LassoReading.{reads_lassos}
use Rattle.product_ops.proofs.laws.operands_read_lassos.Goals as goal

pub returns : goal.returns
returns c = reads_lassos
