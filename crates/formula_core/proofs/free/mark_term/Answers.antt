-- All terms were met, and none has the coefficient 0.
use Rattle.std.proofs.Common.{List, length, arith, subst, ap, take, ℕ}
use Rattle.std.proofs.Math.IntN.{ℤ}
use Rattle.formula_core.specs.Marks.{AreMarked, appears}
use Rattle.formula_core.proofs.Marking.{marked_term}
use Rattle.formula_core.proofs.free.mark_term.Goals as goal

pub returns-clause-marks : goal.returns-clause-marks
returns-clause-marks c =
    let P : List (ℕ × ℤ) → Type 0 = λ ts. AreMarked (λ place. appears place (take c.loop-place.place-index ts)) c.args.marks.now c.loop-place.marks in
    marked_term c.args.term.now c.args.marks.now c.loop-place.marks c.loop-place.place-index c.terms-place-items.ensures.linear (omega (arith, ap length c.terms-place-items.ensures.terms)) (subst P c.terms-place-items.ensures.terms c.loop-place.invariant)
