use Rattle.std.proofs.Common.{◌≡◌, ◌≤◌, length, map, drop}
use Rattle.formula_core.specs.Variables.{sort_of}
use Rattle.script_names.specs.Faults.{arguments_fault}
use Rattle.script_syntax.specs.Trees.{term_of}
use Rattle.script_names.proofs.calls.arguments_names.Given as goal

abbrev pub invariant-loop-at : goal.invariant-loop-at
invariant-loop-at l = (l.at ≤ length l.terms) × (arguments_fault l.scope (map sort_of l.sorts) (map term_of l.terms) ≡ arguments_fault l.scope (map sort_of (drop l.at l.sorts)) (map term_of (drop l.at l.terms)))
