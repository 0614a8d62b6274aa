use Rattle.std.proofs.Common.{ℕ, length, map}
use Rattle.script_tokens.specs.declared.kind.Kind.TheVariants as kind
use Rattle.script_grammar.specs.Views.{place_view}
use Rattle.script_grammar.specs.Statements.{assign}
use Rattle.script_syntax.proofs.Loops.{Kept}
use Rattle.script_statements.specs.Loops.{assignment_shape, join_assignment, assignment_of}
use Rattle.script_statements.proofs.assignments.more_assignments.Given as goal

abbrev pub invariant-loop-alloc : goal.invariant-loop-alloc
invariant-loop-alloc l = (n : ℕ) × Kept (place_view kind.Comma) assign.parse assignment_shape join_assignment l.initial.cursor l.cursor (map assignment_of l.initial.assignments.items) (map assignment_of l.assignments.items) n

abbrev pub decreases-loop-alloc : goal.decreases-loop-alloc
decreases-loop-alloc l = length l.cursor
