use Rattle.threshold_laws.proofs.ValueTotals.{total_of_values}
use Rattle.threshold_laws.proofs.totals_are_runs.Goals as goal

pub returns : goal.returns
returns c = total_of_values
