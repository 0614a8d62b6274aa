use Rattle.script_meaning.proofs.Valuing.{compared_values}
use Rattle.script_meaning.proofs.laws.comparisons_compare_values.Goals as goal

pub returns : goal.returns
returns c = compared_values
