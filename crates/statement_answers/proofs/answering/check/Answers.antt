use Rattle.std.proofs.Common.{[], subst}
use Rattle.std.specs.Prelude.{codes}
use Rattle.lash_model.specs.Meaning.{Solves}
use Rattle.formula_core.specs.Shape.{formula_of}
use Rattle.statement_meaning.specs.Asking.{Check}
use Rattle.statement_answers.specs.Automata.{IsAnswer}
use Rattle.statement_answers.proofs.Saying.{decided}
use Rattle.statement_answers.proofs.answering.check.Goals as goal

pub returns-clause-answered : goal.returns-clause-answered
returns-clause-answered g c =
    let f = formula_of c.args.formula.now in
    let t = c.in_ok-canon.canon.table in
    let answer : IsAnswer c.args.settings [] f t = subst (λ vs. IsAnswer c.args.settings vs f t) c.new.ensures c.in_ok-canon.ensures.answer in
    decided c.args.settings [] (Check f) c.holds.result (codes "true\n") (codes "false\n") (Solves [] f [] 1) (g.K.Sink.held c.args.out.now)
    (g.K.Sink.held c.decide.new.out) (g.K.Sink.faults c.args.out.now) (g.K.Sink.faults c.decide.new.out) c.decide.result
    (c.holds.ensures f answer.stands) (λ piece d. ((t, answer), d)) c.decide.ensures.said
