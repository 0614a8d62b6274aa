use Rattle.breakpoint_laws.proofs.OneTable.{one_breakpoint_table}
use Rattle.breakpoint_laws.proofs.projection.breakpoint_tables_are_one.Goals as goal

pub returns : goal.returns
returns c = λ t u v track limit hu hv e f. one_breakpoint_table t u v track limit limit e f
