use Rattle.std.proofs.Common.{subst, rules, inr}
use Rattle.script_pieces.specs.Taking.{Progress, IsOpen, Takes}
use Rattle.script_pieces.proofs.Opening.{refusal}
use Rattle.script_pieces.proofs.Fetching.{takes_then, needed_then, open_first}
use Rattle.script_pieces.proofs.pieces.Pieces.fetch.Goals as goal

pub returns-in-Some-Err-clause-cause : goal.returns-in-Some-Err-clause-cause
returns-in-Some-Err-clause-cause g c =
    let told = rw c.in-Some-Err.field-0-is at c.in-Some-Err.ensures.told in
    refusal c.in-Some-Err.refusal c.told.new.self (g.S.Source.left c.reads.source) _ _ told

pub returns-in-Ok-eq0-clause-idle : goal.returns-in-Ok-eq0-clause-idle
returns-in-Ok-eq0-clause-idle g c = λ shut. absurd (shut (open_first c.args.self.now c.reads.self _ _ c.reads.invariant.kept (subst IsOpen c.told.ensures.kept c.in-None.ensures.told)))

pub reads-preserved : goal.reads-preserved
reads-preserved g c =
    let now_open : IsOpen c.reads.self = subst IsOpen c.told.ensures.kept c.in-None.ensures.told in
    let more : Takes c.reads.self c.take_more.new.self (g.S.Source.left c.reads.source) (g.S.Source.left c.take_more.new.source) =
    subst (λ (p : Progress). Takes p c.take_more.new.self (g.S.Source.left c.reads.source) (g.S.Source.left c.take_more.new.source)) c.told.ensures.kept c.take_more.ensures.kept in
    record {
      kept = takes_then c.args.self.now c.reads.self c.take_more.new.self _ _ _ c.reads.invariant.kept more;
      needed = inr (needed_then c.args.self.now c.reads.self c.take_more.new.self _ _ _ c.reads.invariant.kept now_open more c.take_more.ensures.room);
      idle = λ shut. absurd (shut (open_first c.args.self.now c.reads.self _ _ c.reads.invariant.kept now_open));
      counted = search rules;
    }

pub returns-in-Err-clause-idle : goal.returns-in-Err-clause-idle
returns-in-Err-clause-idle g c = λ shut. absurd (shut (open_first c.args.self.now c.reads.self _ _ c.reads.invariant.kept (subst IsOpen c.told.ensures.kept c.in-None.ensures.told)))
