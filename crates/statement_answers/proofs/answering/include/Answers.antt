use Rattle.std.proofs.Common.{refl, subst}
use Rattle.std.specs.Prelude.{codes}
use Rattle.formula_core.specs.Variables.{sorts_of}
use Rattle.set_answers.specs.Agreement.{Includes}
use Rattle.lash_io.proofs.Holding.{holds_none}
use Rattle.product_ops.specs.Products.{IsHeavyProduct}
use Rattle.set_answers.specs.Differences.{AreWithin, all_tracks}
use Rattle.statement_answers.specs.declared.settings.Settings.{Settings}
use Rattle.statement_meaning.specs.Asking.{Subset}
use Rattle.statement_answers.specs.Keeping.{sets_kept}
use Rattle.statement_answers.proofs.Saying.{decided, included, same_kind, same_tracks}
use Rattle.statement_answers.proofs.answering.include.Goals as goal

pub returns-in-Ok-clause-answered : goal.returns-in-Ok-clause-answered
returns-in-Ok-clause-answered g c =
    let k = c.requires.0 in
    let l = c.requires.1.1.0 in
    let h = c.held.ensures k c.requires.1.0 in
    let i = c.held-2.ensures l c.requires.1.1.1.0 in
    let t = c.held.result.now.canon.table in
    let u = c.held-2.result.now.canon.table in
    let within = subst (λ (s : Settings). AreWithin t u s.cells) c.settings.ensures.settings c.in-Ok.ensures.pairs in
    decided c.args.library.now.settings (sets_kept c.args.library.now) (Subset c.args.left c.args.right) c.in-Ok.includes (codes "yes\n") (codes "no\n") (Includes (sorts_of k.vars) k.formula l.formula) (g.K.Sink.held c.args.out.now) (g.K.Sink.held c.decide.new.out) (g.K.Sink.faults c.args.out.now) (g.K.Sink.faults c.decide.new.out) c.decide.result
    (included c.args.library.now.settings k l _ _ c.in-Ok.includes h.answer i.answer c.requires.1.1.1.1 c.in-Ok.ensures.includes)
    (λ piece d. (k, (c.requires.1.0, (l, (c.requires.1.1.1.0, ((_, (_, ((h.answer, i.answer), within))), d)))))) c.decide.ensures.said

pub subset-requires-clause-kinds : goal.subset-requires-clause-kinds
subset-requires-clause-kinds g c =
    let k = c.requires.0 in
    let l = c.requires.1.1.0 in
    same_kind c.args.library.now.settings k l _ _ (c.held.ensures k c.requires.1.0).answer (c.held-2.ensures l c.requires.1.1.1.0).answer c.requires.1.1.1.1

pub subset-requires-clause-tracks : goal.subset-requires-clause-tracks
subset-requires-clause-tracks g c =
    let k = c.requires.0 in
    let l = c.requires.1.1.0 in
    same_tracks c.args.library.now.settings k l _ _ (c.held.ensures k c.requires.1.0).answer (c.held-2.ensures l c.requires.1.1.1.0).answer c.requires.1.1.1.1

pub returns-in-Err-Heavy-clause-answered : goal.returns-in-Err-Heavy-clause-answered
returns-in-Err-Heavy-clause-answered g c =
    let h = c.held.ensures c.requires.0 c.requires.1.0 in
    let i = c.held-2.ensures c.requires.1.1.0 c.requires.1.1.1.0 in
    let t = c.held.result.now.canon.table in
    let u = c.held-2.result.now.canon.table in
    let heavy = subst (λ (s : Settings). IsHeavyProduct t u (all_tracks t.tracks) s.cells) c.settings.ensures.settings (c.in-Err-Heavy.ensures.heavy c.in-Err-Heavy.field-0-is) in
    ((refl, (_, (c.requires.1.0, (_, (c.requires.1.1.1.0, (t, (u, ((h.answer, i.answer), heavy)))))))), holds_none (g.K.Sink.held c.args.out.now))
