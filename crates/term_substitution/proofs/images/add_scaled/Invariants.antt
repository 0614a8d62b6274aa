use Rattle.std.proofs.Common.{◌≡◌, drop}
use Rattle.term_substitution.proofs.Adding.{IsAdding}
use Rattle.term_substitution.proofs.images.add_scaled.Given as goal

abbrev pub invariant-loop-part : goal.invariant-loop-part
invariant-loop-part l = IsAdding l.variable.1 l.initial.atom.terms l.part-items l.atom.terms (drop l.part-index l.part-items) × (l.atom.constant ≡ l.initial.atom.constant)
