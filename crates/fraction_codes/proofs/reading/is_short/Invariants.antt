-- The power of the places so far is within the limit.
use Rattle.std.proofs.Common.{◌≡◌, ◌^◌, ◌≤◌}
use Rattle.fraction_codes.proofs.reading.is_short.Given as goal

abbrev pub invariant-loop-place : goal.invariant-loop-place
invariant-loop-place l = (l.power ≡ l.radix ^ l._place) × (l.power ≤ 2 ^ 100)
