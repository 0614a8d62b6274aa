use Rattle.std.proofs.Common.{◌≡◌, [], ◌∷◌, None}
use Rattle.lash_model.specs.Formulas.{And, Or}
use Rattle.loop_laws.specs.Closures.{gathered, joined, short}
use Rattle.loop_closure.specs.Builders.{body_in, joined_on, whole_of}
use Rattle.loop_closure.proofs.branches.put_shorts.Given as goal

abbrev pub invariant-loop-turns : goal.invariant-loop-turns
invariant-loop-turns l = whole_of l.members ≡ joined_on Or None (gathered (λ i. joined And (short l.builder.counted (body_in l.builder) i) ∷ []) l.turns)
