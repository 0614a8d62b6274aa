use Rattle.std.proofs.Common.{ℕ, length, map}
use Rattle.script_tokens.specs.declared.kind.Kind.TheVariants as kind
use Rattle.script_grammar.specs.Views.{place_view}
use Rattle.script_grammar.specs.Terms.{declaration}
use Rattle.script_syntax.specs.Trees.{declaration_shape, join_declaration, declaration_of}
use Rattle.script_syntax.proofs.Loops.{Kept}
use Rattle.script_syntax.proofs.cursor.Cursor.more_declarations.Given as goal

abbrev pub invariant-loop-self : goal.invariant-loop-self
invariant-loop-self l = (n : ℕ) × Kept (place_view kind.Comma) declaration.parse declaration_shape join_declaration l.initial.self l.self (map declaration_of l.initial.declarations.items) (map declaration_of l.declarations.items) n

abbrev pub decreases-loop-self : goal.decreases-loop-self
decreases-loop-self l = length l.self
