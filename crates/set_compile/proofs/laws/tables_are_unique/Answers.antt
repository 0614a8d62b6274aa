use Rattle.set_compile.proofs.Compiled.{one_compiled}
use Rattle.set_compile.proofs.Making.{one_made}
use Rattle.set_compile.proofs.laws.tables_are_unique.Goals as goal

pub returns-clause-made : goal.returns-clause-made
returns-clause-made c = one_made

pub returns-clause-compiled : goal.returns-clause-compiled
returns-clause-compiled c = one_compiled
