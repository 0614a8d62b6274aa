use Rattle.threshold_laws.proofs.AtomTables.{counting_stands}
use Rattle.threshold_laws.proofs.counting_tables_stand.Goals as goal

pub returns : goal.returns
returns c = counting_stands
