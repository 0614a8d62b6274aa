use Rattle.std.proofs.Common.{ℕ, length, map}
use Rattle.script_tokens.specs.declared.kind.Kind.TheVariants as kind
use Rattle.script_grammar.specs.Views.{place_view}
use Rattle.script_grammar.specs.Statements.{bounded}
use Rattle.script_syntax.proofs.Loops.{Kept}
use Rattle.script_statements.specs.Loops.{constraint_shape, join_constraint, constraint_of}
use Rattle.script_statements.proofs.guards.more_constraints.Given as goal

abbrev pub invariant-loop-alloc : goal.invariant-loop-alloc
invariant-loop-alloc l = (n : ℕ) × Kept (place_view kind.And) bounded.parse constraint_shape join_constraint l.initial.cursor l.cursor (map constraint_of l.initial.constraints.items) (map constraint_of l.constraints.items) n

abbrev pub decreases-loop-alloc : goal.decreases-loop-alloc
decreases-loop-alloc l = length l.cursor
