use Rattle.std.proofs.Common.{◌≡◌}
use Rattle.loop_meaning.specs.Assigning.{entries_of}
use Rattle.loop_meaning.proofs.bodies.entries.Given as goal

abbrev pub invariant-loop-at : goal.invariant-loop-at
invariant-loop-at l = l.entries.items ≡ entries_of l.terms l.at
