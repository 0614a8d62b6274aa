use Rattle.matrix_powers.proofs.Turning.{IsRaising}
use Rattle.matrix_powers.proofs.orbit.powers_upto.Given as goal

abbrev pub invariant-loop-made : goal.invariant-loop-made
invariant-loop-made l = IsRaising l.matrix l._made l.powers.items
