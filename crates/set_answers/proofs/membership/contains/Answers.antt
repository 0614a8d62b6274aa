-- The code of a vector that the table may have is read; any other is in no set.
use Rattle.std.proofs.lemmas.Result.{IfOk-weaker}
use Rattle.part_laws.proofs.BothKinds.{canonical_table}
use Rattle.set_answers.specs.Vectors.{IsAnswerToCode}
use Rattle.set_answers.proofs.Members.{whole_if_admitted, coarse_if_admitted, member_is, no_member}
use Rattle.set_answers.proofs.membership.contains.Goals as goal

pub returns-then-not-may_have : goal.returns-then-not-may_have
returns-then-not-may_have c = λ sorts f.
    no_member c.args.canon.now.table sorts f c.args.values.now c.may_have.result
    (record { of_diagram = c.may_have.ensures.diagram; of_fractions = c.may_have.ensures.fractions })
    c.if-not-may_have.true c.requires.small

pub accepts_code-requires-clause-coarse : goal.accepts_code-requires-clause-coarse
accepts_code-requires-clause-coarse c =
    coarse_if_admitted c.args.canon.now.table c.args.values.now c.may_have.result
    (record { of_diagram = c.may_have.ensures.diagram; of_fractions = c.may_have.ensures.fractions })
    c.if-not-may_have.false c.requires.coarse

pub returns : goal.returns
returns c =
    IfOk-weaker c.accepts_code.result (IsAnswerToCode c.args.canon.now.table c.args.values.now) _
    (λ answer said sorts f. member_is c.args.canon.now.table sorts f c.args.values.now answer
    (canonical_table c.args.canon.now.table c.table-table.ensures.canonical)
    c.requires.count c.requires.small
    (whole_if_admitted c.args.canon.now.table c.args.values.now c.may_have.result
    (record { of_diagram = c.may_have.ensures.diagram; of_fractions = c.may_have.ensures.fractions })
    c.if-not-may_have.false) said)
    c.accepts_code.ensures
