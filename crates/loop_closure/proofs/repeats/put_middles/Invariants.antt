use Rattle.std.proofs.Common.{◌≡◌, [], ◌∷◌}
use Rattle.lash_model.specs.Formulas.{And}
use Rattle.loop_laws.specs.Closures.{between, gathered}
use Rattle.loop_closure.specs.Builders.{body_in, joined_on, whole_of}
use Rattle.loop_closure.proofs.repeats.put_middles.Given as goal

abbrev pub invariant-loop-remainder : goal.invariant-loop-remainder
invariant-loop-remainder l = whole_of l.members ≡ joined_on And (whole_of l.initial.members) (gathered (λ j. between (body_in l.builder) l.builder.orbit.power l.place j ∷ []) l.remainder)
