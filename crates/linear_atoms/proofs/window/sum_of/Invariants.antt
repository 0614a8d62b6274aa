use Rattle.linear_atoms.specs.Bounds.{AreMagnitudesSummed}
use Rattle.linear_atoms.proofs.window.sum_of.Given as goal

abbrev pub invariant-loop-term : goal.invariant-loop-term
invariant-loop-term l = AreMagnitudesSummed l.atom.terms l.term-index l.sum
