use Rattle.std.proofs.Common.{◌≤◌, ◌<◌, ◌^◌, ℕ, pos, get_or, unsigned_abs}
use Rattle.matrix_powers.proofs.matrix.Matrix.is_small.Given as goal

abbrev pub invariant-loop-entry : goal.invariant-loop-entry
invariant-loop-entry l = (j : ℕ) → j < l.entry-index → unsigned_abs (get_or l.entry-items j (pos 0)) ≤ 2 ^ 40
