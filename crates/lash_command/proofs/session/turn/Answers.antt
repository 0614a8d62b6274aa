use Rattle.std.proofs.Common.{ℕ, List, subst, sym, ◌+◌}
use Rattle.std.specs.Prelude.{Ok, Err}
use Rattle.script_names.specs.Kept.{KeptSet, sets_of}
use Rattle.script_names.specs.declared.kept.Definition.{Definition}
use Rattle.statement_answers.specs.Keeping.{sets_kept}
use Rattle.script_parse.specs.Answers.{Says}
use Rattle.lash_command.specs.Answers.{HasCome, Ends}
use Rattle.lash_command.proofs.Coming.{come_taken}
use Rattle.lash_command.proofs.Turning.{next_of, finished_of, turned, unanswered_ends, unread_ends}
use Rattle.lash_command.proofs.Fitting.{fits_next}
use Rattle.lash_command.specs.declared.ending.Ending.{Ending}
use Rattle.lash_command.proofs.session.turn.Goals as goal

pub answer-requires : goal.answer-requires
answer-requires g c =
    let kept = sets_kept c.args.library.now in
    let says = subst (λ (ds : List (List ℕ × Definition)). Says c.args.statements.now.base (sets_of ds) c.args.statements.now.progress c.next.new.self.progress (g.S.Source.left c.args.input.now) (g.S.Source.left c.next.new.source) (g.S.Source.faults c.args.input.now) (g.S.Source.faults c.next.new.source) (Ok c.in-Ok-Some.field-0)) c.defs.ensures.defs c.in-Ok-Some.ensures.says in
    let next = next_of _ kept _ _ _ _ (g.S.Source.faults c.args.input.now) (g.S.Source.faults c.next.new.source) c.in-Ok-Some.field-0 c.in-Ok-Some.statement c.in-Ok-Some.field-0-is says in
    fits_next c.args.library.now.settings _ kept _ _ _ _ c.in-Ok-Some.statement c.requires.base c.defs.ensures.base c.defs.ensures.given next

pub returns-in-Ok-clause-comes : goal.returns-in-Ok-clause-comes
returns-in-Ok-clause-comes g c = λ before come.
    let kept = sets_kept c.args.library.now in
    let says = subst (λ (ds : List (List ℕ × Definition)). Says c.args.statements.now.base (sets_of ds) c.args.statements.now.progress c.next.new.self.progress (g.S.Source.left c.args.input.now) (g.S.Source.left c.next.new.source) (g.S.Source.faults c.args.input.now) (g.S.Source.faults c.next.new.source) (Ok c.in-Ok-Some.field-0)) c.defs.ensures.defs c.in-Ok-Some.ensures.says in
    let next = next_of _ kept _ _ _ _ (g.S.Source.faults c.args.input.now) (g.S.Source.faults c.next.new.source) c.in-Ok-Some.field-0 c.in-Ok-Some.statement c.in-Ok-Some.field-0-is says in
    subst (λ (ks : List KeptSet). HasCome c.args.library.now.settings before (record { left = g.S.Source.left c.next.new.source; read_faults = g.S.Source.faults c.next.new.source; held = g.K.Sink.held c.answer.new.out; write_faults = g.K.Sink.faults c.answer.new.out }) ks c.next.new.self.progress (c.args.answered + 1)) (sym c.in-Ok.ensures.kept)
    (turned c.args.library.now.settings _ kept c.args.statements.now.progress c.next.new.self.progress before (record { left = g.S.Source.left c.args.input.now; read_faults = g.S.Source.faults c.args.input.now; held = g.K.Sink.held c.args.out.now; write_faults = g.K.Sink.faults c.args.out.now }) _ _ _ _ _ c.in-Ok-Some.statement c.in-Ok.field-0 (record { same = c.requires.base; come = come; most = c.in-Ok-Some.ensures.most; rose = c.in-Ok-Some.ensures.count }) next c.in-Ok.ensures.count c.in-Ok.ensures.answered)

pub returns-in-Err-answer-clause-comes : goal.returns-in-Err-answer-clause-comes
returns-in-Err-answer-clause-comes g c = λ before come.
    let kept = sets_kept c.args.library.now in
    let says = subst (λ (ds : List (List ℕ × Definition)). Says c.args.statements.now.base (sets_of ds) c.args.statements.now.progress c.next.new.self.progress (g.S.Source.left c.args.input.now) (g.S.Source.left c.next.new.source) (g.S.Source.faults c.args.input.now) (g.S.Source.faults c.next.new.source) (Ok c.in-Ok-Some.field-0)) c.defs.ensures.defs c.in-Ok-Some.ensures.says in
    let next = next_of _ kept _ _ _ _ (g.S.Source.faults c.args.input.now) (g.S.Source.faults c.next.new.source) c.in-Ok-Some.field-0 c.in-Ok-Some.statement c.in-Ok-Some.field-0-is says in
    subst (λ (e : Ending). Ends c.args.library.now.settings e before (record { left = g.S.Source.left c.next.new.source; read_faults = g.S.Source.faults c.next.new.source; held = g.K.Sink.held c.answer.new.out; write_faults = g.K.Sink.faults c.answer.new.out })) (sym c.unanswered.ensures)
    (unanswered_ends c.args.library.now.settings _ kept c.args.statements.now.progress c.next.new.self.progress before (record { left = g.S.Source.left c.args.input.now; read_faults = g.S.Source.faults c.args.input.now; held = g.K.Sink.held c.args.out.now; write_faults = g.K.Sink.faults c.args.out.now }) _ _ _ _ _ c.in-Ok-Some.statement Unit c.in-Err-answer.cause (record { same = c.requires.base; come = come; most = c.in-Ok-Some.ensures.most; rose = c.in-Ok-Some.ensures.count }) next c.in-Err-answer.ensures.count c.in-Err-answer.ensures.answered)

pub returns-in-Ok-None-clause-comes : goal.returns-in-Ok-None-clause-comes
returns-in-Ok-None-clause-comes g c = λ before come.
    let kept = sets_kept c.args.library.now in
    let says = subst (λ (ds : List (List ℕ × Definition)). Says c.args.statements.now.base (sets_of ds) c.args.statements.now.progress c.next.new.self.progress (g.S.Source.left c.args.input.now) (g.S.Source.left c.next.new.source) (g.S.Source.faults c.args.input.now) (g.S.Source.faults c.next.new.source) (Ok c.in-Ok-None.field-0)) c.defs.ensures.defs c.in-Ok-None.ensures.says in
    let ends = finished_of _ kept _ _ _ _ (g.S.Source.faults c.args.input.now) (g.S.Source.faults c.next.new.source) c.in-Ok-None.field-0 c.in-Ok-None.field-0-is says in
    (c.args.answered, record { kept = kept; progress = c.next.new.self.progress; come = come_taken c.args.library.now.settings before (record { left = g.S.Source.left c.args.input.now; read_faults = g.S.Source.faults c.args.input.now; held = g.K.Sink.held c.args.out.now; write_faults = g.K.Sink.faults c.args.out.now }) kept c.args.statements.now.progress c.next.new.self.progress c.args.answered (g.S.Source.left c.next.new.source) (g.S.Source.faults c.next.new.source) come ends.taken c.in-Ok-None.ensures.most c.in-Ok-None.ensures.count; is = record { rest = ends.rest; blank = ends.blank } })

pub returns-in-Err-clause-comes : goal.returns-in-Err-clause-comes
returns-in-Err-clause-comes g c = λ before come.
    let kept = sets_kept c.args.library.now in
    let says = subst (λ (ds : List (List ℕ × Definition)). Says c.args.statements.now.base (sets_of ds) c.args.statements.now.progress c.next.new.self.progress (g.S.Source.left c.args.input.now) (g.S.Source.left c.next.new.source) (g.S.Source.faults c.args.input.now) (g.S.Source.faults c.next.new.source) (Err c.in-Err.error)) c.defs.ensures.defs c.in-Err.ensures.says in
    subst (λ (e : Ending). Ends c.args.library.now.settings e before (record { left = g.S.Source.left c.next.new.source; read_faults = g.S.Source.faults c.next.new.source; held = g.K.Sink.held c.args.out.now; write_faults = g.K.Sink.faults c.args.out.now })) (sym c.unread.ensures)
    (unread_ends c.args.library.now.settings _ kept c.args.statements.now.progress c.next.new.self.progress before (record { left = g.S.Source.left c.args.input.now; read_faults = g.S.Source.faults c.args.input.now; held = g.K.Sink.held c.args.out.now; write_faults = g.K.Sink.faults c.args.out.now }) _ (g.S.Source.faults c.next.new.source) _ c.in-Err.error (record { same = c.requires.base; come = come; most = c.in-Err.ensures.most; rose = c.in-Err.ensures.count }) says)
