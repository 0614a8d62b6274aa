use Rattle.matrix_powers.specs.Matrices.{power_entry}
use Rattle.loop_closure.specs.Filling.{IsFilling}
use Rattle.loop_closure.proofs.terms.add_coefficients.Given as goal

abbrev pub invariant-loop-column : goal.invariant-loop-column
invariant-loop-column l = IsFilling (power_entry l.builder.orbit.matrix l.turns l.row) l.column l.term l.initial.term
