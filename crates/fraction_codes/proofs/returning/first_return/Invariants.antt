-- The powers so far are marked.
use Rattle.std.proofs.Common.{◌==◌}
use Rattle.std.specs.List.{count_by}
use Rattle.fraction_codes.specs.Steps.{AreMarks}
use Rattle.fraction_codes.proofs.returning.first_return.Given as goal

abbrev pub invariant-loop-place : goal.invariant-loop-place
invariant-loop-place l = AreMarks l.radix l.divisor l.place l.power l.met.items

abbrev pub decreases-loop-place : goal.decreases-loop-place
decreases-loop-place l = count_by (λ m. m == 0) l.met.items
