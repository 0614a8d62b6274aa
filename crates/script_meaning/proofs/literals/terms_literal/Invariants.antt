use Rattle.std.proofs.Common.{◌≡◌, map, drop}
use Rattle.script_meaning.specs.Limits.{terms_pass}
use Rattle.script_syntax.specs.Trees.{term_of}
use Rattle.script_meaning.proofs.literals.terms_literal.Given as goal

abbrev pub invariant-loop-term : goal.invariant-loop-term
invariant-loop-term l = terms_pass (map term_of l.terms) ≡ terms_pass (map term_of (drop l.term-index l.terms))
