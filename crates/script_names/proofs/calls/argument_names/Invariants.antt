use Rattle.std.proofs.Common.{◌≡◌, map, drop}
use Rattle.formula_core.specs.Variables.{sort_of}
use Rattle.script_names.specs.Faults.{argument_fault}
use Rattle.script_syntax.specs.Trees.{signed_of}
use Rattle.script_names.proofs.calls.argument_names.Given as goal

abbrev pub invariant-loop-signed : goal.invariant-loop-signed
invariant-loop-signed l = argument_fault (sort_of l.wanted) l.scope (map signed_of l.signed-items) ≡ argument_fault (sort_of l.wanted) l.scope (map signed_of (drop l.signed-index l.signed-items))
