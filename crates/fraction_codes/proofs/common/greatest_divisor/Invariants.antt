-- What is the greatest common divisor of the two at hand is that of the first two.
use Rattle.std.proofs.Common.{ℕ, ◌+◌, ◌<◌}
use Rattle.fraction_codes.specs.Steps.{IsGreatestDivisor}
use Rattle.fraction_codes.proofs.common.greatest_divisor.Given as goal

abbrev pub invariant-loop-left : goal.invariant-loop-left
invariant-loop-left l = ((g : ℕ) → IsGreatestDivisor l.kept l.left g → IsGreatestDivisor l.fn.a l.fn.b g) × (0 < l.kept + l.left)

abbrev pub decreases-loop-left : goal.decreases-loop-left
decreases-loop-left l = l.left
