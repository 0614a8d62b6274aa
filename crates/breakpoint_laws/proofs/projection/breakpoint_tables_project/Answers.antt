use Rattle.breakpoint_laws.proofs.Standing.{formula_projects, wholes_project}
use Rattle.breakpoint_laws.proofs.projection.breakpoint_tables_project.Goals as goal

pub returns-clause-formulas : goal.returns-clause-formulas
returns-clause-formulas c = formula_projects

pub returns-clause-wholes : goal.returns-clause-wholes
returns-clause-wholes c = wholes_project
