use Rattle.std.proofs.Common.{ℕ, ◌<◌}
use Rattle.solution_pick.specs.FractionSolutions.{IsYesLoop}
use Rattle.least_paths.specs.Searches.{state_at}
use Rattle.solution_pick.proofs.stems.first_yes_loop.Given as goal

abbrev pub invariant-loop-at : goal.invariant-loop-at
invariant-loop-at l = (j : ℕ) → j < l.at → IsYesLoop l.table.table (state_at l.found j) → ⊥
