use Rattle.std.proofs.Common.{length, ap, sym, subst, ◌∙◌}
use Rattle.formula_core.specs.Shape.{formula_of}
use Rattle.term_substitution.specs.Conditions.{IsOver}
use Rattle.loop_closure.proofs.Placing.{same_over}
use Rattle.loop_closure.proofs.parts.equal.Goals as goal

pub replace-requires-clause-over : goal.replace-requires-clause-over
replace-requires-clause-over c = subst (λ n. IsOver n (formula_of c.args.builder.now.same)) (sym (ap length (c.deref.ensures.value ∙ c.in-Ok.ensures))) (subst (IsOver 2) (sym c.requires.builder.equation) same_over)
