use Rattle.std.proofs.Common.{arith, ap, sym, ◌∙◌, length, subst}
use Rattle.std.specs.Prelude.{Err}
use Rattle.set_answers.specs.Solving.{Written}
use Rattle.std.proofs.lemmas.List.{length-map}
use Rattle.script_names.specs.Kept.{set_of}
use Rattle.statement_answers.specs.Keeping.{sets_kept}
use Rattle.statement_answers.proofs.Shelving.{here}
use Rattle.statement_answers.proofs.Saying.{solved_as}
use Rattle.statement_answers.proofs.answering.solve.Goals as goal

pub write_solution-requires-clause-base : goal.write_solution-requires-clause-base
write_solution-requires-clause-base g c =
    let h = here (sets_kept c.args.library.now) c.args.at (omega (arith, c.requires, length-map c.args.library.now.definitions set_of)) in
    let is = c.held-held.ensures h.set h.got in
    is.base ∙ sym is.answer.base

pub write_solution-requires-clause-variables : goal.write_solution-requires-clause-variables
write_solution-requires-clause-variables g c =
    let h = here (sets_kept c.args.library.now) c.args.at (omega (arith, c.requires, length-map c.args.library.now.definitions set_of)) in
    let is = c.held-held.ensures h.set h.got in
    ap length is.vars ∙ sym is.answer.tracks

pub returns-in-Ok-clause-answered : goal.returns-in-Ok-clause-answered
returns-in-Ok-clause-answered g c =
    let h = here (sets_kept c.args.library.now) c.args.at (omega (arith, c.requires, length-map c.args.library.now.definitions set_of)) in
    let is = c.held-held.ensures h.set h.got in
    let w = c.in-Ok.ensures.solved in
    (w.0, ((h.set, (h.got, solved_as c.args.library.now.settings h.set c.held-held.result.now.header c.held-held.result.now.canon.table w.0 is w.1.0)), w.1.1))

pub returns-in-Err-Fault-clause-answered : goal.returns-in-Err-Fault-clause-answered
returns-in-Err-Fault-clause-answered g c =
    let h = here (sets_kept c.args.library.now) c.args.at (omega (arith, c.requires, length-map c.args.library.now.definitions set_of)) in
    let is = c.held-held.ensures h.set h.got in
    let w = subst (λ e. Written c.held-held.result.now.header.vars c.held-held.result.now.canon.table (g.K.Sink.held c.args.out.now) (g.K.Sink.held c.write_solution.new.sink) (g.K.Sink.faults c.args.out.now) (g.K.Sink.faults c.write_solution.new.sink) {U = Unit {0}} (Err e)) c.in-Err-Fault.field-0-is c.in-Err-Fault.ensures.solved in
    (w.0, (w.1.0, ((h.set, (h.got, solved_as c.args.library.now.settings h.set c.held-held.result.now.header c.held-held.result.now.canon.table w.1.0 is w.1.1.0)), w.1.1.1)))
