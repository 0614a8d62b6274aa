use Rattle.std.proofs.Common.{ℕ, length, map}
use Rattle.script_tokens.specs.declared.kind.Kind.TheVariants as kind
use Rattle.script_grammar.specs.Views.{place_view}
use Rattle.script_grammar.specs.Statements.{value}
use Rattle.script_syntax.proofs.Loops.{Kept}
use Rattle.script_statements.specs.Values.{value_shape, join_value, rational_of}
use Rattle.script_statements.proofs.values.more_values.Given as goal

abbrev pub invariant-loop-cursor : goal.invariant-loop-cursor
invariant-loop-cursor l = (n : ℕ) × Kept (place_view kind.Comma) value.parse value_shape join_value l.initial.cursor l.cursor (map rational_of l.initial.values.items) (map rational_of l.values.items) n

abbrev pub decreases-loop-cursor : goal.decreases-loop-cursor
decreases-loop-cursor l = length l.cursor
