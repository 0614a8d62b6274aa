-- The first fractions are small.
use Rattle.std.proofs.Common.{ℕ, ◌<◌}
use Rattle.std.specs.List.{slice_index_or}
use Rattle.fraction_codes.specs.Fractions.{IsSmall}
use Rattle.fraction_codes.specs.declared.ratio.Ratio.{Ratio}
use Rattle.set_answers.proofs.tests.real.are_small.Given as goal

abbrev pub invariant-loop-value : goal.invariant-loop-value
invariant-loop-value l = (k : ℕ) (d : Ratio) → k < l.value-index → IsSmall (slice_index_or l.values k d)
