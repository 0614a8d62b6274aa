use Rattle.std.proofs.Common.{rules, ◌∙◌, sym, ap}
use Rattle.loop_meaning.proofs.Filling.{vector_none, vector_more, entry_here}
use Rattle.loop_meaning.proofs.bodies.entries.Goals as goal

pub loop-at-init : goal.loop-at-init
loop-at-init c = c.new-entries.ensures.items ∙ sym (vector_none _)

pub loop-at-preserved : goal.loop-at-preserved
loop-at-preserved c = vector_more _ c.loop-at.at c.loop-at.entries.items c.push.new.self.items c.coefficient-entry.result c.loop-at.invariant (c.coefficient-entry.ensures ∙ entry_here c.args.terms.now c.loop-at.at c.index-terms-at.result _ c.loop-at-test.true c.index-terms-at.is) (search rules)
