use Rattle.std.proofs.Common.{false}
use Rattle.statement_meaning.proofs.Filling.{next_fine, next_filled}
use Rattle.statement_meaning.proofs.vectors.ratios.Goals as goal

pub ratio-requires-clause-positive : goal.ratio-requires-clause-positive
ratio-requires-clause-positive c = (next_fine (record { minus = false; numerator = 0; denominator = 0 }) c.args.values.now c.loop-value.ratios.items c.loop-value.value-index c.loop-value-test.true c.loop-value.invariant).positive

pub loop-value-preserved : goal.loop-value-preserved
loop-value-preserved c = rw c.in-Ok.ensures.items (next_filled (record { minus = false; numerator = 0; denominator = 0 }) c.args.values.now c.loop-value.ratios.items c.loop-value.value-index c.ratio.result c.loop-value-test.true c.loop-value.invariant c.ratio.ensures.ratio c.ratio.ensures.small)
