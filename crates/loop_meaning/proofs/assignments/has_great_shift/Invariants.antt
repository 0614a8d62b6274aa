use Rattle.std.proofs.Common.{◌≡◌, map, drop}
use Rattle.script_statements.specs.Loops.{assignment_of}
use Rattle.loop_meaning.specs.Assigning.{shift_passes}
use Rattle.loop_meaning.proofs.Remaining.{IsReadable}
use Rattle.loop_meaning.proofs.assignments.has_great_shift.Given as goal

abbrev pub invariant-loop-assignment : goal.invariant-loop-assignment
invariant-loop-assignment l = (shift_passes (map assignment_of l.assignments) ≡ shift_passes (map assignment_of (drop l.assignment-index l.assignments))) × IsReadable (map assignment_of (drop l.assignment-index l.assignments))
