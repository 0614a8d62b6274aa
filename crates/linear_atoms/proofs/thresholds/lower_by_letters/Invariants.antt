use Rattle.std.proofs.Common.{◌≡◌, ℕ, ℤ, ◌+◌, ◌*◌, ◌^◌, ◌<◌, ◌≤◌, List, length, All}
use Rattle.linear_atoms.specs.Closing.{IsSmall, IsClosing}
use Rattle.linear_atoms.proofs.thresholds.lower_by_letters.Given as goal

-- the bound at `at` has been lowered by the letters before this one
pub record Lowering (base : ℕ) (totals first now : List ℤ) (at letter room : ℕ) : Type 0 where
  pub small : All IsSmall now
  pub grown : length first ≤ length now
  pub within : length now ≤ room
  pub closing : (seeds : List ℤ) → IsClosing base totals seeds first at 0 → IsClosing base totals seeds now at letter

abbrev pub invariant-loop-letter : goal.invariant-loop-letter
invariant-loop-letter l = Lowering l.base l.totals l.initial.found.keys l.found.keys l.at l.letter l.room
