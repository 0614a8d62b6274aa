use Rattle.std.proofs.Common.{◌+◌, ◌<◌, length, ap, arith}
use Rattle.fraction_codes.proofs.ReadingOn.{longer_passes}
use Rattle.fraction_codes.proofs.reading.is_short.Goals as goal

pub returns-then-power-gt-MAX_POWER-clause-long : goal.returns-then-power-gt-MAX_POWER-clause-long
returns-then-power-gt-MAX_POWER-clause-long c = λ e.
    let inside : c.loop-place._place < length c.args.lasso.now.whole + length c.args.lasso.now.stem + length c.args.lasso.now.cycle = omega (arith, c.loop-place-test.true, ap length c.letters.ensures, ap length c.letters-2.ensures, ap length c.letters-3.ensures) in
    longer_passes c.args.radix c.loop-place.power _ c.loop-place._place _ (omega (arith, c.requires.low)) c.loop-place.invariant.0 inside (rw c.from-power.ensures at c.if-power-gt-MAX_POWER.true)
