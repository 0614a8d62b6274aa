use Rattle.std.proofs.Common.{ap, sym}
use Rattle.step_tables.proofs.table.packing.Table+Plain.bound.Goals as goal

pub returns-clause-wide : goal.returns-clause-wide
returns-clause-wide c = sym (ap (λ k. k.bounds) c.self.view_is)
