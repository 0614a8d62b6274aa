use Rattle.product_ops.proofs.Joining.{reads_picked}
use Rattle.product_ops.proofs.laws.operands_read_words.Goals as goal

pub returns : goal.returns
returns c = reads_picked
