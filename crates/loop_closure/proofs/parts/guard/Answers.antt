use Rattle.std.proofs.Common.{arith, length, ap, sym, subst, ◌∙◌}
use Rattle.formula_core.specs.Shape.{formula_of}
use Rattle.term_substitution.specs.Conditions.{IsOver}
use Rattle.loop_closure.specs.Builders.{stage_term}
use Rattle.loop_closure.proofs.Gathering.{one_each}
use Rattle.loop_closure.proofs.parts.guard.Goals as goal

pub replace-requires-clause-over : goal.replace-requires-clause-over
replace-requires-clause-over c = subst (λ n. IsOver n (formula_of c.args.builder.now.guard)) (sym (ap length (c.deref.ensures.value ∙ c.in-Ok.ensures.items) ∙ one_each (stage_term c.args.builder.now c.args.stage) c.args.builder.now.orbit.matrix.side)) c.requires.builder.over

pub replace-requires-clause-count : goal.replace-requires-clause-count
replace-requires-clause-count c = omega (arith, ap length (c.deref.ensures.value ∙ c.in-Ok.ensures.items), one_each (stage_term c.args.builder.now c.args.stage) c.args.builder.now.orbit.matrix.side, c.requires.builder.few)
