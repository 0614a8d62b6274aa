use Rattle.std.proofs.Common.{◌≡◌, ℕ, ℤ, ◌≤◌, List, length, All}
use Rattle.linear_atoms.specs.Closing.{IsSmall, IsStarting}
use Rattle.linear_atoms.proofs.thresholds.close.Given as goal

-- the first seeds have been met
pub record Seeding (base : ℕ) (totals seeds found : List ℤ) (at room : ℕ) : Type 0 where
  pub small : All IsSmall found
  pub within : length found ≤ room
  pub starting : IsStarting base totals seeds found at

abbrev pub invariant-loop-at : goal.invariant-loop-at
invariant-loop-at l = Seeding l.base l.totals l.seeds l.found.keys l.at l.room
