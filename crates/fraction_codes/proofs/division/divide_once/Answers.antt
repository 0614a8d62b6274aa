-- One remainder more was divided.
use Rattle.std.proofs.Common.{◌^◌, get_or, arith}
use Rattle.std.proofs.lemmas.Nat.{mul-le}
use Rattle.fraction_codes.proofs.Dividing.{divided_none, divided_below, divided_more, divided_small, divided_stays_below}
use Rattle.fraction_codes.proofs.LongRuns.{quotient_below}
use Rattle.fraction_codes.proofs.division.divide_once.Goals as goal

pub loop-rest-init : goal.loop-rest-init
loop-rest-init c = divided_none c.args.radix c.args.divisor c.args.rests.now

pub overflow_mul-scaled : goal.overflow_mul-scaled
overflow_mul-scaled c =
    let below = divided_below c.args.radix c.args.divisor c.loop-rest.rest-index c.loop-rest.letter c.args.rests.now c.loop-rest.rests c.loop-rest.invariant c.loop-rest-test.true c.requires.below in
    rw c.from.ensures (omega (arith, mul-le c.args.radix (get_or c.loop-rest.rests c.loop-rest.rest-index 0) 16 (2 ^ 104) c.requires.high (omega (arith, below, c.requires.divisor))))

pub overflow_mul-letter : goal.overflow_mul-letter
overflow_mul-letter c =
    let small = divided_small c.args.radix c.args.divisor c.loop-rest.rest-index c.loop-rest.letter c.args.rests.now c.loop-rest.rests (omega (arith, c.requires.low)) (omega (arith, c.loop-rest-test.true, c.loop-rest.invariant.count)) c.requires.few c.requires.below c.loop-rest.invariant in
    omega (arith, mul-le c.loop-rest.letter c.args.radix 4096 16 (omega (arith, small)) c.requires.high)

pub overflow_cast-letter : goal.overflow_cast-letter
overflow_cast-letter c =
    let below = divided_below c.args.radix c.args.divisor c.loop-rest.rest-index c.loop-rest.letter c.args.rests.now c.loop-rest.rests c.loop-rest.invariant c.loop-rest-test.true c.requires.below in
    rw c.from.ensures (omega (arith, quotient_below c.args.radix c.args.divisor (get_or c.loop-rest.rests c.loop-rest.rest-index 0) (omega (arith, c.requires.low)) below, c.requires.high))

pub overflow_add-letter : goal.overflow_add-letter
overflow_add-letter c =
    let below = divided_below c.args.radix c.args.divisor c.loop-rest.rest-index c.loop-rest.letter c.args.rests.now c.loop-rest.rests c.loop-rest.invariant c.loop-rest-test.true c.requires.below in
    let small = divided_small c.args.radix c.args.divisor c.loop-rest.rest-index c.loop-rest.letter c.args.rests.now c.loop-rest.rests (omega (arith, c.requires.low)) (omega (arith, c.loop-rest-test.true, c.loop-rest.invariant.count)) c.requires.few c.requires.below c.loop-rest.invariant in
    rw c.from.ensures (omega (arith, mul-le c.loop-rest.letter c.args.radix 4096 16 (omega (arith, small)) c.requires.high, quotient_below c.args.radix c.args.divisor (get_or c.loop-rest.rests c.loop-rest.rest-index 0) (omega (arith, c.requires.low)) below, c.requires.high))

pub nonzero_rem-rest : goal.nonzero_rem-rest
nonzero_rem-rest c = omega (arith, divided_below c.args.radix c.args.divisor c.loop-rest.rest-index c.loop-rest.letter c.args.rests.now c.loop-rest.rests c.loop-rest.invariant c.loop-rest-test.true c.requires.below)

pub loop-rest-preserved : goal.loop-rest-preserved
loop-rest-preserved c = rw c.from.ensures (divided_more c.args.radix c.args.divisor c.loop-rest.rest-index c.loop-rest.letter c.args.rests.now c.loop-rest.rests c.loop-rest-test.true c.loop-rest.invariant)

pub returns-clause-below : goal.returns-clause-below
returns-clause-below c = divided_stays_below c.args.radix c.args.divisor c.loop-rest.rest-index c.loop-rest.letter c.args.rests.now c.loop-rest.rests c.loop-rest-test.false c.requires.below c.loop-rest.invariant
