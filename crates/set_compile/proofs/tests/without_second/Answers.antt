use Rattle.std.proofs.Common.{rules, ◌<◌, sym, subst}
use Rattle.lash_model.specs.Tables.{letters, fracs}
use Rattle.part_laws.specs.CanonicalMixed.{fraction_graph}
use Rattle.part_laws.specs.Graphs.{IsWeak}
use Rattle.step_tables.specs.Kept.{Kept}
use Rattle.set_compile.proofs.tests.without_second.Goals as goal

pub project_real-requires-clause-weak : goal.project_real-requires-clause-weak
project_real-requires-clause-weak c =
    let some : 0 < fracs c.table-table.result.now.table = search rules in
    let same = c.table-table.ensures.value in
    subst (λ (k : Kept). IsWeak (letters k.table) (fraction_graph k.table)) (sym same)
    (c.table-table.ensures.fractions (subst (λ (k : Kept). 0 < fracs k.table) same some)).weak
