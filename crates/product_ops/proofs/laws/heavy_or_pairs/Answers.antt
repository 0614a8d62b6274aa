use Rattle.product_ops.proofs.PairRuns.{not_heavy_with_table}
use Rattle.product_ops.proofs.laws.heavy_or_pairs.Goals as goal

pub returns : goal.returns
returns c = not_heavy_with_table
