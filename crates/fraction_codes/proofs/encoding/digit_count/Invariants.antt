-- No fewer digits are enough than were counted so far.
use Rattle.std.proofs.Common.{◌≡◌, ℕ, ◌+◌, ◌-◌, ◌^◌, ◌<◌, ◌≤◌}
use Rattle.fraction_codes.proofs.encoding.digit_count.Given as goal

abbrev pub invariant-loop-power : goal.invariant-loop-power
invariant-loop-power l = (l.power ≡ l.radix ^ l.count) × ((j : ℕ) → l.number < l.radix ^ j → l.count ≤ j) × (l.power ≤ 2 ^ 104)

abbrev pub decreases-loop-power : goal.decreases-loop-power
decreases-loop-power l = l.number + 1 - l.power
