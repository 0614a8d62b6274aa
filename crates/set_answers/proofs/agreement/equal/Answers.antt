-- The tables are equal exactly if the sets agree.
use Rattle.set_answers.proofs.Agreeing.{tables_agree}
use Rattle.set_answers.proofs.agreement.equal.Goals as goal

pub returns-clause-agree : goal.returns-clause-agree
returns-clause-agree c = λ sorts f g base left right of_left of_right.
    let agreed = tables_agree c.args.left.now.table c.args.right.now.table sorts f g c.table-left.ensures.canonical c.table-right.ensures.canonical
    base left right of_left of_right in
    (λ y. agreed.0 (c.same.ensures.tables.0 y), λ a. c.same.ensures.tables.1 (agreed.1 a))
