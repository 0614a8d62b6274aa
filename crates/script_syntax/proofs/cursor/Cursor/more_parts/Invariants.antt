use Rattle.std.proofs.Common.{ℕ, length, map}
use Rattle.parser_laws.specs.Placed.{placed_view}
use Rattle.script_grammar.specs.Views.{adding_view}
use Rattle.script_grammar.specs.Terms.{part}
use Rattle.script_syntax.specs.Trees.{part_shape, join_part, signed_of}
use Rattle.script_syntax.proofs.Loops.{Kept}
use Rattle.script_syntax.proofs.cursor.Cursor.more_parts.Given as goal

abbrev pub invariant-loop-minus : goal.invariant-loop-minus
invariant-loop-minus l = (n : ℕ) × Kept (placed_view adding_view) part.parse part_shape join_part l.initial.self l.self (map signed_of l.initial.parts.items) (map signed_of l.parts.items) n

abbrev pub decreases-loop-minus : goal.decreases-loop-minus
decreases-loop-minus l = length l.self
