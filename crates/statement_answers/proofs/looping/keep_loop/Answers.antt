-- The pairs are a set inside the limits.
use Rattle.std.proofs.Common.{subst}
use Rattle.formula_core.specs.Shape.{formula_of}
use Rattle.loop_closure.specs.Bodies.{body_of}
use Rattle.statement_answers.specs.Automata.{IsGiven}
use Rattle.statement_answers.specs.Keeping.{sets_kept}
use Rattle.statement_answers.specs.Loops.{IsPairing}
use Rattle.statement_answers.specs.declared.settings.Settings.{Settings}
use Rattle.statement_answers.proofs.Pairing.{pairs_given, pairs_kept, loop_silent}
use Rattle.statement_answers.proofs.looping.keep_loop.Goals as goal

pub keep-requires-clause-given : goal.keep-requires-clause-given
keep-requires-clause-given c =
    subst (λ (s : Settings). IsGiven s.base c.args.vars (formula_of c.in-Ok.formula)) c.settings.ensures.settings
    (pairs_given c.settings.result.base (sets_kept c.args.library.now) c.args.name c.args.vars (body_of c.args.body) (formula_of c.in-Ok.formula)
    c.requires c.in-Ok.ensures.pairs)

pub keep-requires-clause-inside : goal.keep-requires-clause-inside
keep-requires-clause-inside c =
    pairs_kept c.settings.result.base (sets_kept c.args.library.now) c.args.name c.args.vars (body_of c.args.body) (formula_of c.in-Ok.formula)
    c.settings.ensures.base c.requires c.in-Ok.ensures.pairs

pub returns-in-Ok-clause-answered : goal.returns-in-Ok-clause-answered
returns-in-Ok-clause-answered c =
    let body = body_of c.args.body in
    let f = formula_of c.in-Ok.formula in
    loop_silent c.args.library.now.settings (sets_kept c.args.library.now) c.args.name c.args.vars body f c.keep.result
    (subst (λ (s : Settings). IsPairing s.base body f) c.settings.ensures.settings c.in-Ok.ensures.pairs) c.keep.ensures.answered
