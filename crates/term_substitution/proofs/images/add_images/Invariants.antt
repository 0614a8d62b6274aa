use Rattle.std.proofs.Common.{◌≡◌, drop}
use Rattle.term_substitution.proofs.Adding.{IsPutting}
use Rattle.term_substitution.proofs.images.add_images.Given as goal

abbrev pub invariant-loop-variable : goal.invariant-loop-variable
invariant-loop-variable l = IsPutting l.terms l.places l.variables l.atom.terms (drop l.variable-index l.variables) × (l.atom.constant ≡ l.initial.atom.constant)
