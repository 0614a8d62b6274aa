use Rattle.std.proofs.Common.{ℕ, length, map}
use Rattle.script_tokens.specs.declared.kind.Kind.TheVariants as kind
use Rattle.script_grammar.specs.Views.{place_view}
use Rattle.script_grammar.specs.Terms.{term}
use Rattle.script_syntax.specs.Trees.{term_shape, join_term, term_of}
use Rattle.script_syntax.proofs.Loops.{Kept}
use Rattle.script_syntax.proofs.cursor.Cursor.more_terms.Given as goal

abbrev pub invariant-loop-alloc : goal.invariant-loop-alloc
invariant-loop-alloc l = (n : ℕ) × Kept (place_view kind.Comma) term.parse term_shape join_term l.initial.self l.self (map term_of l.initial.terms.items) (map term_of l.terms.items) n

abbrev pub decreases-loop-alloc : goal.decreases-loop-alloc
decreases-loop-alloc l = length l.self
