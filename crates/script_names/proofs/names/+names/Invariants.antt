use Rattle.std.proofs.Common.{◌≡◌, ◌≤◌}
use Rattle.script_names.specs.Kept.{sets_of}
use Rattle.script_names.specs.Faults.{tree_fault, or_else}
use Rattle.script_names.specs.Answers.{IsChecked}
use Rattle.script_names.specs.declared.names.FaultAt.{FaultAt}
use Rattle.std.specs.Prelude.{Option}
use Rattle.script_syntax.specs.Trees.{tree_of}
use Rattle.script_syntax.specs.declared.tree.Tree.{size-Tree}
use Rattle.script_names.proofs.names.+names.Given as goal

abbrev pub invariant-check_names-loop-first : goal.invariant-check_names-loop-first
invariant-check_names-loop-first l = (size-Tree l.first ≤ size-Tree l.tree) × (l.scope ≡ l.initial.scope) × ((rest : Option FaultAt) × (tree_fault (sets_of l.defs) l.initial.scope (tree_of l.tree) ≡ or_else (tree_fault (sets_of l.defs) l.initial.scope (tree_of l.first)) rest) × IsChecked rest l.later)
