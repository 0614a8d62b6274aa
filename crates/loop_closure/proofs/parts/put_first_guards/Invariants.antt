use Rattle.std.proofs.Common.{◌≡◌, [], ◌∷◌}
use Rattle.lash_model.specs.Formulas.{And}
use Rattle.loop_laws.specs.Closures.{early_term, gathered, guarded}
use Rattle.loop_closure.specs.Builders.{body_in, joined_on, whole_of}
use Rattle.loop_closure.proofs.parts.put_first_guards.Given as goal

abbrev pub invariant-loop-turns : goal.invariant-loop-turns
invariant-loop-turns l = whole_of l.members ≡ joined_on And (whole_of l.initial.members) (gathered (λ j. guarded (body_in l.builder) (early_term (body_in l.builder) j) l.places ∷ []) l.turns)
