use Rattle.std.proofs.Common.{if◌then◌else◌, ap, ◌∙◌}
use Rattle.step_tables.proofs.Laying.{proper_at, answered_more}
use Rattle.step_tables.proofs.answers.bits_of.Goals as goal

pub loop-at-init : goal.loop-at-init
loop-at-init g c = c.in-Ok.ensures.items

pub is_yes-requires : goal.is_yes-requires
is_yes-requires g c = proper_at (g.A.Answers.is_proper c.args.answers.now) c.args.found.now.keys c.loop-at.at c.key.result.now c.requires c.key.ensures

pub loop-at-preserved : goal.loop-at-preserved
loop-at-preserved g c = answered_more (g.A.Answers.says_yes c.args.answers.now) c.args.found.now.keys c.loop-at.at c.key.result.now c.bit_of.result c.loop-at.bits.items c.push.new.self.items c.key.ensures (c.bit_of.ensures ∙ ap (λ b. if b then 1 else 0) c.is_yes.ensures) c.loop-at.invariant c.in-Ok-push.ensures.items
