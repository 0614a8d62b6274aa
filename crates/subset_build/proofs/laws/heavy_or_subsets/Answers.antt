use Rattle.subset_build.proofs.Uniqueness.{not_heavy_with_table}
use Rattle.subset_build.proofs.laws.heavy_or_subsets.Goals as goal

pub returns : goal.returns
returns c = not_heavy_with_table
