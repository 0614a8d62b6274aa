use Rattle.std.proofs.Common.{◌≡◌, map, drop}
use Rattle.script_statements.specs.Loops.{assignment_of}
use Rattle.loop_meaning.specs.Assigning.{assignments_fault}
use Rattle.loop_meaning.proofs.assignments.check_assignments.Given as goal

abbrev pub invariant-loop-assignment : goal.invariant-loop-assignment
invariant-loop-assignment l = assignments_fault l.scope l.initial.assigned (map assignment_of l.assignments) ≡ assignments_fault l.scope l.assigned (map assignment_of (drop l.assignment-index l.assignments))
