use Rattle.std.proofs.Common.{subst, sym}
use Rattle.formula_core.specs.Shape.{formula_of}
use Rattle.loop_closure.specs.Bodies.{body_of}
use Rattle.statement_meaning.specs.Asking.{Loop, asked_of}
use Rattle.statement_meaning.specs.declared.statement.Statement.{Statement}
use Rattle.statement_answers.specs.Keeping.{sets_kept}
use Rattle.statement_answers.specs.Pieces.{Answered}
use Rattle.statement_answers.proofs.Saying.{shown, checked, kept_silently}
use Rattle.statement_answers.proofs.answering.answer.Goals as goal

pub returns-in-Show-clause-answered : goal.returns-in-Show-clause-answered
returns-in-Show-clause-answered g c =
    subst (λ (s : Statement). Answered c.args.library.now.settings (sets_kept c.args.library.now) (asked_of s) (g.K.Sink.held c.args.out.now) (g.K.Sink.held c.show.new.out) (g.K.Sink.faults c.args.out.now) (g.K.Sink.faults c.show.new.out) c.show.result) (sym c.in-Show.is)
    (shown c.settings.result c.args.library.now.settings (sets_kept c.args.library.now) c.in-Show.vars (formula_of c.in-Show.formula) (g.K.Sink.held c.args.out.now) (g.K.Sink.held c.show.new.out) (g.K.Sink.faults c.args.out.now) (g.K.Sink.faults c.show.new.out) c.show.result c.settings.ensures.settings c.show.ensures.answered)

pub returns-in-Loop-clause-answered : goal.returns-in-Loop-clause-answered
returns-in-Loop-clause-answered g c =
    subst (λ (s : Statement). Answered c.args.library.now.settings (sets_kept c.args.library.now) (asked_of s) (g.K.Sink.held c.args.out.now) (g.K.Sink.held c.args.out.now) (g.K.Sink.faults c.args.out.now) (g.K.Sink.faults c.args.out.now) c.keep_loop.result) (sym c.in-Loop.is)
    (kept_silently c.args.library.now.settings (sets_kept c.args.library.now) (Loop c.in-Loop.name c.in-Loop.vars (body_of c.in-Loop.body)) (g.K.Sink.held c.args.out.now) (g.K.Sink.faults c.args.out.now) c.keep_loop.result c.keep_loop.ensures.answered)

pub returns-in-Check-clause-answered : goal.returns-in-Check-clause-answered
returns-in-Check-clause-answered g c =
    let settings = c.args.library.now.settings in
    let kept = sets_kept c.args.library.now in
    let before = g.K.Sink.held c.args.out.now in
    let after = g.K.Sink.held c.check.new.out in
    let faults_before = g.K.Sink.faults c.args.out.now in
    let faults_after = g.K.Sink.faults c.check.new.out in
    subst (λ (s : Statement). Answered settings kept (asked_of s) before after faults_before faults_after c.check.result) (sym c.in-Check.is)
    (checked c.settings-in-Check.result settings kept (formula_of c.in-Check.formula) before after faults_before faults_after c.check.result
    c.settings-in-Check.ensures.settings c.check.ensures.answered)
