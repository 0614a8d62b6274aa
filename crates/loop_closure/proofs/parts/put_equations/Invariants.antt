use Rattle.std.proofs.Common.{◌≡◌, ◌+◌, [], ◌∷◌}
use Rattle.lash_model.specs.Formulas.{And}
use Rattle.loop_laws.specs.Closures.{equation, gathered}
use Rattle.loop_closure.specs.Builders.{joined_on, stage_places, stage_term, whole_of}
use Rattle.loop_closure.proofs.parts.put_equations.Given as goal

abbrev pub invariant-loop-row : goal.invariant-loop-row
invariant-loop-row l = whole_of l.members ≡ joined_on And (whole_of l.initial.members) (gathered (λ row. equation (l.builder.orbit.matrix.side + row) (stage_term l.builder l.stage row) (stage_places l.stage) ∷ []) l.row)
