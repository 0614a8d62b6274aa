use Rattle.std.proofs.Common.{arith}
use Rattle.std.proofs.lemmas.List.{length-map}
use Rattle.script_names.specs.Kept.{set_of}
use Rattle.statement_answers.specs.Keeping.{sets_kept}
use Rattle.statement_answers.proofs.Shelving.{here}
use Rattle.statement_answers.proofs.Saying.{heads, shown_as}
use Rattle.statement_answers.proofs.answering.print.Goals as goal

pub write_text-requires : goal.write_text-requires
write_text-requires g c =
    let h = here (sets_kept c.args.library.now) c.args.at (omega (arith, c.requires, length-map c.args.library.now.definitions set_of)) in
    let is = c.held-held.ensures h.set h.got in
    heads c.args.library.now.settings h.set c.held-held.result.now.header c.held-held.result.now.canon.table is

pub returns-in-Ok-clause-answered : goal.returns-in-Ok-clause-answered
returns-in-Ok-clause-answered g c =
    let h = here (sets_kept c.args.library.now) c.args.at (omega (arith, c.requires, length-map c.args.library.now.definitions set_of)) in
    let is = c.held-held.ensures h.set h.got in
    (_, ((h.set, (h.got, shown_as c.args.library.now.settings h.set c.held-held.result.now.header c.held-held.result.now.canon.table is)), c.in-Ok.ensures.text))

pub returns-in-Err-clause-answered : goal.returns-in-Err-clause-answered
returns-in-Err-clause-answered g c =
    let h = here (sets_kept c.args.library.now) c.args.at (omega (arith, c.requires, length-map c.args.library.now.definitions set_of)) in
    let is = c.held-held.ensures h.set h.got in
    (c.in-Err.ensures.cause, (_, ((h.set, (h.got, shown_as c.args.library.now.settings h.set c.held-held.result.now.header c.held-held.result.now.canon.table is)), c.in-Err.ensures.text)))
