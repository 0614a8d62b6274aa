use Rattle.std.proofs.Common.{◌≡◌, ◌<◌, ℕ, length, slice_index}
use Rattle.components.proofs.ranking.ranks_by_parts.Given as goal

abbrev pub invariant-loop-state : goal.invariant-loop-state
invariant-loop-state l = record {
  long : length l.ranks.items ≡ l.state;
  each : (q : ℕ) → q < l.state → slice_index l.ranks.items q ≡ slice_index l.by_part.items (slice_index l.parts.numbers q);
}
