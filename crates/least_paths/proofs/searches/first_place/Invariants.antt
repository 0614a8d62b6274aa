use Rattle.std.proofs.Common.{◌≡◌, ℕ, ◌<◌}
use Rattle.least_paths.specs.Searches.{state_at}
use Rattle.least_paths.proofs.searches.first_place.Given as goal

abbrev pub invariant-loop-at : goal.invariant-loop-at
invariant-loop-at l = (j : ℕ) → j < l.at → state_at l.found j ≡ l.state → ⊥
