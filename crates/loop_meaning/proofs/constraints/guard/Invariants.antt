use Rattle.std.proofs.Common.{◌≡◌, map, drop}
use Rattle.script_syntax.specs.Trees.{tree_of}
use Rattle.script_statements.specs.Loops.{constraint_of}
use Rattle.loop_meaning.specs.Guards.{joined_guard, guard_tree}
use Rattle.loop_meaning.proofs.constraints.guard.Given as goal

abbrev pub invariant-loop-at : goal.invariant-loop-at
invariant-loop-at l = joined_guard (tree_of l.tree) (map constraint_of (drop l.at l.constraints)) ≡ guard_tree (map constraint_of l.constraints)
