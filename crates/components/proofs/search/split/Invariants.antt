use Rattle.std.proofs.Common.{◌≡◌, ◌<◌, ℕ, slice_index}
use Rattle.components.specs.Walking.{layout, IsWalk}
use Rattle.components.proofs.search.split.Given as goal

abbrev pub invariant-loop-root : goal.invariant-loop-root
invariant-loop-root l = record {
  walk : IsWalk l.states l.rows l.letters (layout l.walk);
  ended : l.walk.depth ≡ 0;
  seen : (q : ℕ) → q < l.root → slice_index l.walk.place.items q < l.states;
}
