use Rattle.std.proofs.Common.{◌≡◌, ◌≤◌}
use Rattle.script_meaning.specs.Limits.{literal_passes}
use Rattle.script_syntax.specs.Trees.{tree_of}
use Rattle.script_syntax.specs.declared.tree.Tree.{size-Tree}
use Rattle.script_meaning.proofs.literals.+literals.Given as goal

abbrev pub invariant-has_great_literal-loop-first : goal.invariant-has_great_literal-loop-first
invariant-has_great_literal-loop-first l = (size-Tree l.first ≤ size-Tree l.tree) × (literal_passes (tree_of l.tree) ≡ literal_passes (tree_of l.first))
