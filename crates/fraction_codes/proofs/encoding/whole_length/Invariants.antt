-- The length has room for the first floors.
use Rattle.std.proofs.Common.{take, ◌^◌, ◌≤◌}
use Rattle.fraction_codes.specs.Steps.{IsFloorCount}
use Rattle.fraction_codes.proofs.encoding.whole_length.Given as goal

abbrev pub invariant-loop-value : goal.invariant-loop-value
invariant-loop-value l = IsFloorCount l.radix (take l.value-index l.values) l.length × (l.radix ^ l.length ≤ 2 ^ 104)
