use Rattle.std.proofs.Common.{◌≡◌, ◌≤◌, ◌+◌}
use Rattle.std.specs.Prelude.{min}
use Rattle.formula_core.specs.Counts.{nodes_of, count_limit}
use Rattle.script_syntax.specs.Trees.{tree_of}
use Rattle.script_syntax.specs.declared.tree.Tree.{size-Tree}
use Rattle.script_names.specs.Kept.{sets_of}
use Rattle.script_names.specs.Scopes.{Scope}
use Rattle.script_meaning.specs.Core.{core}
use Rattle.script_meaning.proofs.counts.+nodes.Given as goal

abbrev pub invariant-nodes-loop-first : goal.invariant-nodes-loop-first
invariant-nodes-loop-first l = (size-Tree l.first ≤ size-Tree l.tree) × ((scope : Scope) → min (nodes_of (core (sets_of l.defs) scope (tree_of l.tree))) count_limit ≡ min (nodes_of (core (sets_of l.defs) scope (tree_of l.first)) + l.count) count_limit)
