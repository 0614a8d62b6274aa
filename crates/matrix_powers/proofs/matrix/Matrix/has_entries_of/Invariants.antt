use Rattle.std.proofs.Common.{◌≡◌, ◌<◌, ℕ, pos, get_or}
use Rattle.matrix_powers.proofs.matrix.Matrix.has_entries_of.Given as goal

abbrev pub invariant-loop-at : goal.invariant-loop-at
invariant-loop-at l = (j : ℕ) → j < l.at → get_or l.self-inside.entries.items j (pos 0) ≡ get_or l.other-inside.entries.items j (pos 0)
