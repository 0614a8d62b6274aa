use Rattle.std.specs.Prelude.{codes}
use Rattle.formula_core.specs.Variables.{sorts_of}
use Rattle.set_answers.specs.Agreement.{Agree}
use Rattle.statement_meaning.specs.Asking.{Equal}
use Rattle.statement_answers.specs.Keeping.{sets_kept}
use Rattle.statement_answers.proofs.Saying.{decided, compared}
use Rattle.statement_answers.proofs.answering.compare.Goals as goal

pub returns-clause-answered : goal.returns-clause-answered
returns-clause-answered g c =
    let k = c.requires.0 in
    let l = c.requires.1.1.0 in
    let h = c.held.ensures k c.requires.1.0 in
    let i = c.held-2.ensures l c.requires.1.1.1.0 in
    decided c.args.library.now.settings (sets_kept c.args.library.now) (Equal c.args.left c.args.right) c.equal-agree.result (codes "yes\n") (codes "no\n") (Agree (sorts_of k.vars) k.formula l.formula) (g.K.Sink.held c.args.out.now) (g.K.Sink.held c.decide.new.out) (g.K.Sink.faults c.args.out.now) (g.K.Sink.faults c.decide.new.out) c.decide.result
    (compared c.args.library.now.settings k l _ _ c.equal-agree.result h.answer i.answer c.requires.1.1.1.1 c.equal-agree.ensures.agree)
    (λ piece d. (k, (c.requires.1.0, (l, (c.requires.1.1.1.0, d))))) c.decide.ensures.said
