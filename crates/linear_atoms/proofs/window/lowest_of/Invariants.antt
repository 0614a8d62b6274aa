use Rattle.linear_atoms.specs.Bounds.{AreNegativesSummed}
use Rattle.linear_atoms.proofs.window.lowest_of.Given as goal

abbrev pub invariant-loop-term : goal.invariant-loop-term
invariant-loop-term l = AreNegativesSummed l.atom.terms l.term-index l.sum
