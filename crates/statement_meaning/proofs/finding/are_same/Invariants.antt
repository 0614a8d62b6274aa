use Rattle.std.proofs.Common.{◌≡◌, ◌≤◌, length, map, drop}
use Rattle.formula_core.specs.Variables.{sort_of}
use Rattle.statement_meaning.specs.Judging.{same_sorts}
use Rattle.statement_meaning.proofs.finding.are_same.Given as goal

abbrev pub invariant-loop-at : goal.invariant-loop-at
invariant-loop-at l = (l.at ≤ length l.left) × (length l.left ≡ length l.right) × (same_sorts (map sort_of l.left) (map sort_of l.right) ≡ same_sorts (map sort_of (drop l.at l.left)) (map sort_of (drop l.at l.right)))
