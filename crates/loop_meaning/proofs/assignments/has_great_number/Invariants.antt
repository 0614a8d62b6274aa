use Rattle.std.proofs.Common.{◌≡◌, map, drop}
use Rattle.script_statements.specs.Loops.{assignment_of}
use Rattle.loop_meaning.specs.Assigning.{assignments_literal}
use Rattle.loop_meaning.proofs.assignments.has_great_number.Given as goal

abbrev pub invariant-loop-assignment : goal.invariant-loop-assignment
invariant-loop-assignment l = assignments_literal (map assignment_of l.assignments) ≡ assignments_literal (map assignment_of (drop l.assignment-index l.assignments))
