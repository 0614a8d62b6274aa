use Rattle.std.proofs.Common.{◌≤◌, ◌<◌, ◌^◌, ℕ, unsigned_abs}
use Rattle.matrix_powers.specs.Orbits.{at_row}
use Rattle.loop_closure.proofs.tests.is_shift.Given as goal

abbrev pub invariant-loop-row : goal.invariant-loop-row
invariant-loop-row l = (row : ℕ) → row < l.row → unsigned_abs (at_row l.shift row) ≤ 2 ^ 40
