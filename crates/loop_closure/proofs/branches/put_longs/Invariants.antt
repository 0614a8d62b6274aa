use Rattle.std.proofs.Common.{◌≡◌, [], ◌∷◌}
use Rattle.lash_model.specs.Formulas.{And, Exists, Int, Or}
use Rattle.loop_laws.specs.Closures.{gathered, joined, long}
use Rattle.loop_closure.specs.Builders.{body_in, joined_on, whole_of}
use Rattle.loop_closure.proofs.branches.put_longs.Given as goal

abbrev pub invariant-loop-remainder : goal.invariant-loop-remainder
invariant-loop-remainder l = whole_of l.members ≡ joined_on Or (whole_of l.initial.members) (gathered (λ i. Exists Int (joined And (long l.builder.counted (body_in l.builder) l.builder.orbit.power i)) ∷ []) l.remainder)
