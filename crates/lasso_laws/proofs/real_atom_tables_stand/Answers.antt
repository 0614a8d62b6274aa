use Rattle.lasso_laws.proofs.RealAtomTables.{real_atom_stands, real_atom_weak}
use Rattle.lasso_laws.proofs.real_atom_tables_stand.Goals as goal

pub returns-clause-stands : goal.returns-clause-stands
returns-clause-stands c = real_atom_stands

pub returns-clause-weak : goal.returns-clause-weak
returns-clause-weak c = real_atom_weak
