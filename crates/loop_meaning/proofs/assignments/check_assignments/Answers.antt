use Rattle.std.proofs.Common.{subst}
use Rattle.script_statements.specs.Loops.{assignment_of}
use Rattle.script_names.specs.Answers.{IsRefused}
use Rattle.loop_meaning.specs.Assigning.{assignment_fault}
use Rattle.loop_meaning.proofs.Assigning.{next_is_refused}
use Rattle.loop_meaning.proofs.assignments.check_assignments.Goals as goal

pub returns-in-Err : goal.returns-in-Err
returns-in-Err c = next_is_refused c.assignment-item.result c.args.scope.now c.args.assigned.now c.loop-assignment.assigned c.args.assignments.now c.loop-assignment.assignment-index c.in-Err.error c.loop-assignment-test.true c.loop-assignment.invariant (subst (λ a. IsRefused (assignment_fault c.args.scope.now c.loop-assignment.assigned (assignment_of a)) c.in-Err.error) c.assignment-item.is c.in-Err.ensures)
