use Rattle.std.proofs.Common.{◌≡◌}
use Rattle.loop_meaning.specs.Assigning.{constants_of}
use Rattle.loop_meaning.proofs.bodies.constants.Given as goal

abbrev pub invariant-loop-term : goal.invariant-loop-term
invariant-loop-term l = l.constants.items ≡ constants_of l.terms l.term-index
