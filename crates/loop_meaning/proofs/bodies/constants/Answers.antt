use Rattle.std.proofs.Common.{rules, ◌∙◌, sym, ap}
use Rattle.loop_meaning.proofs.Filling.{vector_none, vector_more, same_place}
use Rattle.loop_meaning.proofs.bodies.constants.Goals as goal

pub loop-term-init : goal.loop-term-init
loop-term-init c = c.new-constants.ensures.items ∙ sym (vector_none _)

pub loop-term-preserved : goal.loop-term-preserved
loop-term-preserved c = vector_more _ c.loop-term.term-index c.loop-term.constants.items c.push.new.self.items c.constant.result c.loop-term.invariant (search (rules, same_place)) (search rules)
