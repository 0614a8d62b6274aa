use Rattle.std.proofs.Common.{subst}
use Rattle.std.proofs.lemmas.Result.{err_from_is_err_and}
use Rattle.formula_core.specs.Shape.{formula_of}
use Rattle.statement_meaning.specs.Asking.{Set}
use Rattle.statement_answers.specs.Automata.{IsAnswer}
use Rattle.statement_answers.specs.Keeping.{sets_kept}
use Rattle.statement_answers.specs.Pieces.{HasNoAutomaton}
use Rattle.statement_answers.specs.declared.settings.Settings.{Settings}
use Rattle.statement_answers.proofs.Saying.{none_silent, put_silent}
use Rattle.statement_answers.proofs.answering.keep.Goals as goal

pub returns-clause-answered : goal.returns-clause-answered
returns-clause-answered c =
    let f = formula_of c.args.formula in
    let t = c.in_ok-canon.canon.table in
    put_silent c.args.library.now c.args.name c.args.vars f t c.put.result c.put.ensures.library
    (subst (λ (s : Settings). IsAnswer s c.args.vars f t) c.settings-base.ensures.settings c.in_ok-canon.ensures.answer)
    c.put.ensures.within c.put.ensures.over c.put.ensures.only

pub returns-in_err-canon-clause-answered : goal.returns-in_err-canon-clause-answered
returns-in_err-canon-clause-answered c =
    let f = formula_of c.args.formula in
    let error = c.in_err-canon.field-0.0 in
    let p = err_from_is_err_and c.from_residual.result c.from_residual.ensures.1 in
    rw (p.1, p.2)
    (none_silent c.args.library.now.settings (sets_kept c.args.library.now) (Set c.args.name c.args.vars f) c.args.vars f Unit error (λ u h. h)
    (subst (λ (s : Settings). HasNoAutomaton s c.args.vars f error) c.settings-base.ensures.settings c.in_err-canon.ensures.cause))
