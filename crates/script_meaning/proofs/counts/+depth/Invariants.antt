use Rattle.std.proofs.Common.{◌≡◌, ◌≤◌, ◌+◌}
use Rattle.std.specs.Prelude.{min, max}
use Rattle.formula_core.specs.Counts.{depth_of, count_limit}
use Rattle.script_syntax.specs.Trees.{tree_of}
use Rattle.script_syntax.specs.declared.tree.Tree.{size-Tree}
use Rattle.script_names.specs.Kept.{sets_of}
use Rattle.script_names.specs.Scopes.{Scope}
use Rattle.script_meaning.specs.Core.{core}
use Rattle.script_meaning.proofs.counts.+depth.Given as goal

abbrev pub invariant-depth-loop-first : goal.invariant-depth-loop-first
invariant-depth-loop-first l = (size-Tree l.first ≤ size-Tree l.tree) × ((scope : Scope) → min (depth_of (core (sets_of l.defs) scope (tree_of l.tree))) count_limit ≡ min (max (depth_of (core (sets_of l.defs) scope (tree_of l.first)) + l.above) l.deepest) count_limit)
