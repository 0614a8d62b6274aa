use Rattle.std.proofs.Common.{IsTrue, ◌≡◌, ◌↔◌, ◌∙◌, sym, ap, subst}
use Rattle.lash_model.specs.Tables.{IsTable}
use Rattle.part_laws.proofs.BothKinds.{canonical_table}
use Rattle.step_tables.specs.Kept.{Kept}
use Rattle.weak_min.proofs.Comparing.{equal_by_words, equal_by_lassos}
use Rattle.weak_min.proofs.comparison.same.Goals as goal

pub same_tables-requires-clause-left : goal.same_tables-requires-clause-left
same_tables-requires-clause-left c = subst IsTable (sym (ap (λ (k : Kept). k.table) c.table.ensures.value)) (canonical_table c.args.left.now.table c.table.ensures.canonical)

pub same_tables-requires-clause-right : goal.same_tables-requires-clause-right
same_tables-requires-clause-right c = subst IsTable (sym (ap (λ (k : Kept). k.table) c.table-2.ensures.value)) (canonical_table c.args.right.now.table c.table-2.ensures.canonical)

pub returns-clause-words : goal.returns-clause-words
returns-clause-words c = λ d e b n.
    let left : c.table.result.now.table ≡ c.args.left.now.table = ap (λ (k : Kept). k.table) c.table.ensures.value in
    let right : c.table-2.result.now.table ≡ c.args.right.now.table = ap (λ (k : Kept). k.table) c.table-2.ensures.value in
    let tables : IsTrue c.same_tables.result ↔ (c.args.left.now.table ≡ c.args.right.now.table) = (λ y. sym left ∙ c.same_tables.ensures.0 y ∙ right, λ e. c.same_tables.ensures.1 (left ∙ e ∙ sym right)) in
    equal_by_words c.args.left.now.table c.args.right.now.table (IsTrue c.same_tables.result) (c.table.ensures.diagram d) (c.table-2.ensures.diagram e) tables b n

pub returns-clause-lassos : goal.returns-clause-lassos
returns-clause-lassos c = λ d e b n.
    let left : c.table.result.now.table ≡ c.args.left.now.table = ap (λ (k : Kept). k.table) c.table.ensures.value in
    let right : c.table-2.result.now.table ≡ c.args.right.now.table = ap (λ (k : Kept). k.table) c.table-2.ensures.value in
    let tables : IsTrue c.same_tables.result ↔ (c.args.left.now.table ≡ c.args.right.now.table) = (λ y. sym left ∙ c.same_tables.ensures.0 y ∙ right, λ e. c.same_tables.ensures.1 (left ∙ e ∙ sym right)) in
    equal_by_lassos c.args.left.now.table c.args.right.now.table (IsTrue c.same_tables.result) (c.table.ensures.fractions d) (c.table-2.ensures.fractions e) tables b n
