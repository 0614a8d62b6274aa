use Rattle.std.proofs.Common.{ℕ, ◌+◌, ◌*◌, length}
use Rattle.script_tokens.specs.declared.kind.Kind.TheVariants as kind
use Rattle.script_grammar.specs.Views.{place_view}
use Rattle.script_grammar.specs.Formulas.{room, and_lang, unary_lang}
use Rattle.script_syntax.specs.Trees.{unary_shape, and_shape, join_and, join_or, tree_of}
use Rattle.script_syntax.proofs.Loops.{Kept}
use Rattle.script_syntax.proofs.cursor.Cursor.+formula.Given as goal

abbrev pub decreases-formula : goal.decreases-formula
decreases-formula l = 8 * l.depth + 7

abbrev pub decreases-iff : goal.decreases-iff
decreases-iff l = 8 * l.depth + 6

abbrev pub decreases-imp : goal.decreases-imp
decreases-imp l = 8 * l.depth + 5

abbrev pub decreases-or : goal.decreases-or
decreases-or l = 8 * l.depth + 4

abbrev pub decreases-more_ands : goal.decreases-more_ands
decreases-more_ands l = 8 * l.depth + 3

abbrev pub decreases-and : goal.decreases-and
decreases-and l = 8 * l.depth + 2

abbrev pub decreases-more_units : goal.decreases-more_units
decreases-more_units l = 8 * l.depth + 1

abbrev pub decreases-unary : goal.decreases-unary
decreases-unary l = 8 * l.depth

abbrev pub invariant-more_units-loop-alloc : goal.invariant-more_units-loop-alloc
invariant-more_units-loop-alloc l = (n : ℕ) × Kept (place_view kind.And) (unary_lang (room l.depth) 0).parse unary_shape join_and l.initial.self l.self (tree_of l.initial.tree) (tree_of l.tree) n

abbrev pub decreases-more_units-loop-alloc : goal.decreases-more_units-loop-alloc
decreases-more_units-loop-alloc l = length l.self

abbrev pub invariant-more_ands-loop-alloc : goal.invariant-more_ands-loop-alloc
invariant-more_ands-loop-alloc l = (n : ℕ) × Kept (place_view kind.Or) (and_lang (room l.depth) 0).parse and_shape join_or l.initial.self l.self (tree_of l.initial.tree) (tree_of l.tree) n

abbrev pub decreases-more_ands-loop-alloc : goal.decreases-more_ands-loop-alloc
decreases-more_ands-loop-alloc l = length l.self
