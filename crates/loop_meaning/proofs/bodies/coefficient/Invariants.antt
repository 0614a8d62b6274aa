use Rattle.std.proofs.Common.{◌≡◌, drop}
use Rattle.formula_core.specs.Terms.{coefficient_at}
use Rattle.loop_meaning.proofs.bodies.coefficient.Given as goal

abbrev pub invariant-loop-part : goal.invariant-loop-part
invariant-loop-part l = coefficient_at l.term.terms l.place ≡ coefficient_at (drop l.part-index l.part-items) l.place
