use Rattle.std.proofs.Common.{arith, sym, refl}
use Rattle.linear_atoms.proofs.Sweeping.{counted_before, counted_all, counted_more, less_by_test, at_most_by_test}
use Rattle.linear_atoms.proofs.counts.count_from.Goals as goal

pub loop-count-init : goal.loop-count-init
loop-count-init c = c.if-not-are_below.ensures refl

pub returns-then-not-is_below-clause-value : goal.returns-then-not-is_below-clause-value
returns-then-not-is_below-clause-value c = counted_before c.args.thresholds.now c.args.value.now c.loop-count.count c.requires.rising c.loop-count.invariant (at_most_by_test _ _ (sym c.if-not-is_below.ensures))

pub loop-count-preserved : goal.loop-count-preserved
loop-count-preserved c = counted_more c.args.thresholds.now c.args.value.now c.loop-count.count c.loop-count-test.true (less_by_test _ _ (sym c.if-not-is_below.ensures))

pub returns-clause-value : goal.returns-clause-value
returns-clause-value c = counted_all c.args.thresholds.now c.args.value.now c.loop-count.count c.requires.rising c.loop-count.invariant (omega (arith, c.loop-count-test.false))
