use Rattle.std.proofs.Common.{◌≡◌, ◌+◌, ◌*◌, ◌<◌, ℕ, slice_index}
use Rattle.components.proofs.parts.steps_inside.Given as goal

abbrev pub invariant-loop-letter : goal.invariant-loop-letter
invariant-loop-letter l = (k : ℕ) → k < l.letter → slice_index l.numbers (slice_index l.rows (l.state * l.letters + k)) ≡ slice_index l.numbers l.state → ⊥
