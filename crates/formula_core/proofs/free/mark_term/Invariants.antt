use Rattle.std.proofs.Common.{take}
use Rattle.formula_core.specs.Marks.{AreMarked, appears}
use Rattle.formula_core.proofs.free.mark_term.Given as goal

abbrev pub invariant-loop-place : goal.invariant-loop-place
invariant-loop-place l = AreMarked (λ place. appears place (take l.place-index l.place-items)) l.initial.marks l.marks
