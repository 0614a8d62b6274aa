use Rattle.std.proofs.Common.{◌≤◌, ◌<◌, ◌^◌, arith}
use Rattle.lash_model.proofs.Digits.{power_positive}
use Rattle.fraction_codes.proofs.Counting.{few_digits, lessened}
use Rattle.fraction_codes.proofs.encoding.digit_count.Goals as goal

pub overflow_add-count : goal.overflow_add-count
overflow_add-count c =
    let small : c.args.radix ^ c.loop-power.count ≤ 2 ^ 104 = omega (arith, c.loop-power.invariant.0, c.loop-power.invariant.2) in
    omega (arith, few_digits c.args.radix c.loop-power.count c.requires.low small)

pub loop-power-smaller : goal.loop-power-smaller
loop-power-smaller c =
    let positive : 0 < c.loop-power.power = omega (arith, c.loop-power.invariant.0, power_positive c.args.radix c.loop-power.count (omega (arith, c.requires.low))) in
    rw c.from-power.ensures (lessened c.args.number c.loop-power.power c.args.radix c.requires.low positive c.loop-power-test.true)
