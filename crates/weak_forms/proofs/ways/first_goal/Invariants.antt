use Rattle.std.proofs.Common.{ℕ, ◌<◌, slice_index}
use Rattle.weak_forms.specs.Ways.{IsGoal}
use Rattle.weak_forms.proofs.ways.first_goal.Given as goal

abbrev pub invariant-loop-at : goal.invariant-loop-at
invariant-loop-at l = (j : ℕ) → j < l.at → IsGoal l.goals (slice_index l.found.order j) → ⊥
