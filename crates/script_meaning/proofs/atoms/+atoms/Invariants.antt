use Rattle.std.proofs.Common.{◌≡◌, ◌≤◌, ◌+◌, ◌||◌, false, length}
use Rattle.script_names.specs.Kept.{sets_of}
use Rattle.script_meaning.specs.Core.{core}
use Rattle.term_substitution.specs.Limits.{some_atom, coefficients_pass, constant_passes}
use Rattle.script_meaning.specs.Limits.{literal_passes, size_of, terms_limit}
use Rattle.script_syntax.specs.Trees.{tree_of}
use Rattle.script_syntax.specs.declared.tree.Tree.{size-Tree}
use Rattle.script_meaning.proofs.atoms.+atoms.Given as goal

abbrev pub invariant-judge_atoms-loop-first : goal.invariant-judge_atoms-loop-first
invariant-judge_atoms-loop-first l = (size-Tree l.first ≤ size-Tree l.tree) × (l.scope ≡ l.initial.scope) × (literal_passes (tree_of l.first) ≡ false) × (length l.initial.scope + size_of (tree_of l.first) ≤ terms_limit) × (some_atom coefficients_pass (core (sets_of l.defs) l.initial.scope (tree_of l.tree)) ≡ (some_atom coefficients_pass (core (sets_of l.defs) l.initial.scope (tree_of l.first)) || l.found.coefficients)) × (some_atom constant_passes (core (sets_of l.defs) l.initial.scope (tree_of l.tree)) ≡ (some_atom constant_passes (core (sets_of l.defs) l.initial.scope (tree_of l.first)) || l.found.constant))
