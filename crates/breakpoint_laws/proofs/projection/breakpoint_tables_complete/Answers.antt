use Rattle.breakpoint_laws.proofs.BreakpointTables.{marked_completes}
use Rattle.breakpoint_laws.proofs.Standing.{formula_stands}
use Rattle.breakpoint_laws.proofs.projection.breakpoint_tables_complete.Goals as goal

pub returns-clause-lassos : goal.returns-clause-lassos
returns-clause-lassos c = marked_completes

pub returns-clause-stands : goal.returns-clause-stands
returns-clause-stands c = λ t u track f placed h hu some lt base_is one_more accepts keeps stands. formula_stands t u track f placed h some lt base_is one_more accepts keeps stands
