-- The remainders of the first fractions were made.
use Rattle.std.proofs.Common.{◌≡◌, ◌<◌, All, map, take}
use Rattle.fraction_codes.specs.FixedCodes.{first_rest}
use Rattle.fraction_codes.proofs.parts.first_rests.Given as goal

abbrev pub invariant-loop-value : goal.invariant-loop-value
invariant-loop-value l = (l.rests.items ≡ map (first_rest l.divisor) (take l.value-index l.values)) × All (λ p. p < l.divisor) l.rests.items
