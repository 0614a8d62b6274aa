use Rattle.std.proofs.Common.{◌≡◌, map, drop}
use Rattle.script_statements.specs.Loops.{assignment_of}
use Rattle.loop_meaning.specs.Assigning.{assigned_to}
use Rattle.loop_meaning.proofs.Remaining.{IsReadable}
use Rattle.loop_meaning.proofs.bodies.assigned.Given as goal

abbrev pub invariant-loop-assignment : goal.invariant-loop-assignment
invariant-loop-assignment l = (assigned_to l.scope (map assignment_of l.assignments) l.row ≡ assigned_to l.scope (map assignment_of (drop l.assignment-index l.assignments)) l.row) × IsReadable (map assignment_of (drop l.assignment-index l.assignments))
