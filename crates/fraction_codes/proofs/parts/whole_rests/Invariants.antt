-- The raised floors of the first fractions were made.
use Rattle.std.proofs.Common.{◌≡◌, ◌<◌, All, map, take}
use Rattle.fraction_codes.specs.Fractions.{floor}
use Rattle.fraction_codes.specs.Steps.{raised}
use Rattle.fraction_codes.proofs.parts.whole_rests.Given as goal

abbrev pub invariant-loop-value : goal.invariant-loop-value
invariant-loop-value l = (l.rests.items ≡ map (λ v. raised l.power (floor v)) (take l.value-index l.values)) × All (λ p. p < l.power) l.rests.items
