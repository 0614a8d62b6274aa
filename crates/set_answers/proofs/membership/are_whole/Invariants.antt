-- The first fractions are whole.
use Rattle.std.proofs.Common.{ℕ, ◌<◌}
use Rattle.std.specs.List.{slice_index_or}
use Rattle.fraction_codes.specs.Fractions.{IsWholeTimes}
use Rattle.fraction_codes.specs.declared.ratio.Ratio.{Ratio}
use Rattle.set_answers.proofs.membership.are_whole.Given as goal

abbrev pub invariant-loop-value : goal.invariant-loop-value
invariant-loop-value l = (k : ℕ) (d : Ratio) → k < l.value-index → IsWholeTimes 1 (slice_index_or l.values k d)
