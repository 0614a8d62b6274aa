use Rattle.std.proofs.Common.{◌≡◌, ◌+◌, [], ◌∷◌}
use Rattle.lash_model.specs.Formulas.{And}
use Rattle.loop_laws.specs.Closures.{early_term, gathered, guarded, late_term}
use Rattle.loop_closure.specs.Builders.{body_in, joined_on, whole_of}
use Rattle.loop_closure.proofs.repeats.put_lasts.Given as goal

abbrev pub invariant-loop-remainder : goal.invariant-loop-remainder
invariant-loop-remainder l = whole_of l.members ≡ joined_on And (whole_of l.initial.members) (gathered (λ j. guarded (body_in l.builder) (early_term (body_in l.builder) (l.builder.orbit.power + j)) (l.place + 1) ∷ guarded (body_in l.builder) (late_term (body_in l.builder) l.builder.orbit.power j l.place 1) (l.place + 1) ∷ []) l.remainder)
