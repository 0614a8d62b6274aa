use Rattle.product_ops.proofs.PairsInTwo.{not_heavy_in_two}
use Rattle.product_ops.proofs.laws.heavy_or_mixed_pairs.Goals as goal

pub returns : goal.returns
returns c = not_heavy_in_two
