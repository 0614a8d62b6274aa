use Rattle.std.proofs.Common.{◌≡◌, length}
use Rattle.components.specs.Walking.{layout, IsListing}
use Rattle.components.proofs.walk.number.Given as goal

abbrev pub invariant-loop-at : goal.invariant-loop-at
invariant-loop-at l = record {
  rest : layout l.walk ≡ record (layout l.initial.walk) { part = l.walk.part.items; finished = l.walk.finished.items; done = l.walk.done };
  listing : IsListing (length l.initial.walk.order.items) l.initial.walk.part.items l.initial.walk.place.items l.from l.at l.initial.walk.count
      l.initial.walk.done l.walk.part.items l.walk.finished.items l.walk.done;
}
