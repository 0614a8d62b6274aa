use Rattle.matrix_powers.proofs.Turning.{IsTurning}
use Rattle.matrix_powers.proofs.orbit.sums_upto.Given as goal

abbrev pub invariant-loop-turns : goal.invariant-loop-turns
invariant-loop-turns l = IsTurning l.matrix l.shift l.turns l.sums.items
