use Rattle.std.proofs.Common.{map}
use Rattle.script_statements.specs.Loops.{assignment_of}
use Rattle.loop_meaning.proofs.Filling.{AreFilled}
use Rattle.loop_meaning.proofs.bodies.next_terms.Given as goal

abbrev pub invariant-loop-row : goal.invariant-loop-row
invariant-loop-row l = AreFilled l.scope (map assignment_of l.assignments) l.row l.terms.items
