use Rattle.std.proofs.Common.{◌≡◌, ℕ, ℤ, ◌-◌, ◌≤◌, List, length, All}
use Rattle.linear_atoms.specs.Closing.{IsSmall, IsClosing}
use Rattle.linear_atoms.proofs.thresholds.lower_all.Given as goal

-- the bounds before `at` have been lowered by all letters
pub record Lowered (base : ℕ) (totals seeds found : List ℤ) (at room : ℕ) : Type 0 where
  pub small : All IsSmall found
  pub within : length found ≤ room
  pub closing : IsClosing base totals seeds found at 0

abbrev pub invariant-loop-at : goal.invariant-loop-at
invariant-loop-at l = Lowered l.base l.totals l.seeds l.found.keys l.at l.room

abbrev pub decreases-loop-at : goal.decreases-loop-at
decreases-loop-at l = l.room - l.at
