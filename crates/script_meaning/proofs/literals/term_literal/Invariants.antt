use Rattle.std.proofs.Common.{◌≡◌, map, drop}
use Rattle.script_meaning.specs.Limits.{term_passes}
use Rattle.script_syntax.specs.Trees.{signed_of}
use Rattle.script_meaning.proofs.literals.term_literal.Given as goal

abbrev pub invariant-loop-signed : goal.invariant-loop-signed
invariant-loop-signed l = term_passes (map signed_of l.signed-items) ≡ term_passes (map signed_of (drop l.signed-index l.signed-items))
