use Rattle.std.proofs.Common.{rules, ◌≡◌, IsTrue}
use Rattle.lash_model.specs.Tables.{letters, fracs}
use Rattle.part_laws.specs.CanonicalMixed.{fraction_graph}
use Rattle.product_ops.proofs.Sinks.{weak_by_sinks}
use Rattle.product_ops.proofs.weak_tests.is_weak.Goals as goal

pub returns-clause-weak : goal.returns-clause-weak
returns-clause-weak c = λ fine.
    let first : IsTrue c.is_fine.result = search rules in
    let second : IsTrue c.is_fine-2.result = search rules in
    let two : letters c.args.table.now.table ≡ 2 = search rules in
    let three : fracs c.args.table.now.table ≡ 3 = search rules in
    weak_by_sinks (letters c.args.table.now.table) (fraction_graph c.args.table.now.table) two three (c.is_fine.ensures first) (c.is_fine-2.ensures second) (c.is_fine-3.ensures fine)
