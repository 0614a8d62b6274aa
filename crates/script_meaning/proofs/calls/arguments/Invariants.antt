use Rattle.std.proofs.Common.{map, drop}
use Rattle.script_syntax.specs.Trees.{term_of}
use Rattle.script_meaning.proofs.Calling.{IsArguing}
use Rattle.script_meaning.proofs.calls.arguments.Given as goal

abbrev pub invariant-loop-term : goal.invariant-loop-term
invariant-loop-term l = IsArguing l.scope (map term_of l.terms) l.linears.items (map term_of (drop l.term-index l.terms))
