use Rattle.std.proofs.Common.{◌+◌, sym, subst}
use Rattle.matrix_powers.proofs.Turning.{IsTurning, turning_more}
use Rattle.matrix_powers.proofs.orbit.sums_upto.Goals as goal

pub loop-turns-preserved : goal.loop-turns-preserved
loop-turns-preserved c =
    subst (IsTurning c.args.matrix.now c.args.shift.now (c.loop-turns.turns + 1)) (sym c.in-Ok.ensures.items)
    (turning_more c.args.matrix.now c.index-powers-exponent.result c.args.shift.now c.index-sum.result.now c.in_ok-next.next c.args.power c.loop-turns.turns c.reduced-exponent.result c.args.powers.now c.loop-turns.sums.items c.first_sum.ensures.square c.requires.shift c.requires.power c.loop-turns-test.true c.requires.powers c.requires.count c.reduced-exponent.ensures c.index-powers-exponent.is c.index-sum.ensures c.loop-turns.invariant c.in_ok-next.ensures)
