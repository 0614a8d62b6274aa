use Rattle.linear_atoms.proofs.Excluding.{not_heavy_with_real_table}
use Rattle.linear_atoms.proofs.laws.heavy_or_real_table.Goals as goal

pub returns : goal.returns
returns c = not_heavy_with_real_table
