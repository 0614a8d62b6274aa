use Rattle.std.proofs.Common.{◌≡◌, map, drop}
use Rattle.script_names.specs.Faults.{term_fault}
use Rattle.script_syntax.specs.Trees.{signed_of}
use Rattle.script_names.proofs.names.term_names.Given as goal

abbrev pub invariant-loop-signed : goal.invariant-loop-signed
invariant-loop-signed l = term_fault l.scope (map signed_of l.signed-items) ≡ term_fault l.scope (map signed_of (drop l.signed-index l.signed-items))
