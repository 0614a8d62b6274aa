use Rattle.std.proofs.Common.{◌<◌, ℕ, slice_index}
use Rattle.components.specs.Walking.{layout, IsWalk, effort}
use Rattle.components.proofs.search.search.Given as goal

abbrev pub invariant-loop-walk : goal.invariant-loop-walk
invariant-loop-walk l = record {
  walk : IsWalk l.states l.rows l.letters (layout l.walk);
  kept : (q : ℕ) → slice_index l.fn.walk.place.items q < l.states → slice_index l.walk.place.items q < l.states;
  root : slice_index l.walk.place.items l.root < l.states;
}

abbrev pub decreases-loop-walk : goal.decreases-loop-walk
decreases-loop-walk l = effort l.states l.letters (layout l.walk)
