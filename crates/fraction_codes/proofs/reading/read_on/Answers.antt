-- One letter more was read.
use Rattle.std.proofs.Common.{◌<◌, ◌^◌, get_or, arith}
use Rattle.lash_model.specs.Letters.{digit}
use Rattle.fraction_codes.proofs.Digits.{digit_below}
use Rattle.fraction_codes.proofs.ReadingOn.{read_none, read_more, read_room, read_small}
use Rattle.fraction_codes.proofs.reading.read_on.Goals as goal

pub loop-letter-init : goal.loop-letter-init
loop-letter-init c = read_none c.args.base c.args.tracks c.args.track c.args.from.now c.requires.below

pub overflow_mul-to : goal.overflow_mul-to
overflow_mul-to c = rw (c.from.ensures, c.radix.ensures.value) (omega (arith, read_room c.args.base c.args.tracks c.args.track c.loop-letter.letter-index c.args.word.now c.args.from.now c.loop-letter.to (omega (arith, c.radix.ensures.low)) c.loop-letter-test.true c.requires.room c.loop-letter.invariant))

pub overflow_mul-to-in-loop-letter : goal.overflow_mul-to-in-loop-letter
overflow_mul-to-in-loop-letter c =
    let room = read_room c.args.base c.args.tracks c.args.track c.loop-letter.letter-index c.args.word.now c.args.from.now c.loop-letter.to (omega (arith, c.radix.ensures.low)) c.loop-letter-test.true c.requires.room c.loop-letter.invariant in
    rw (c.from-in-loop-letter.ensures, c.radix-in-loop-letter.ensures.value) (omega (arith, room, read_small c.args.base 0 c.loop-letter.to c.loop-letter.invariant.below (omega (arith, c.radix.ensures.low))))

pub overflow_add-to : goal.overflow_add-to
overflow_add-to c =
    let room = read_room c.args.base c.args.tracks c.args.track c.loop-letter.letter-index c.args.word.now c.args.from.now c.loop-letter.to (omega (arith, c.radix.ensures.low)) c.loop-letter-test.true c.requires.room c.loop-letter.invariant in
    let inside : get_or c.args.word.now c.loop-letter.letter-index 0 < c.args.base ^ c.args.tracks = c.requires.letters c.loop-letter.letter-index 0 c.loop-letter-test.true in
    let small = digit_below c.args.base c.args.tracks c.args.track (get_or c.args.word.now c.loop-letter.letter-index 0) (omega (arith, c.radix.ensures.low)) c.requires.track inside in
    rw (c.from-in-loop-letter.ensures, c.radix-in-loop-letter.ensures.value, c.from-in-loop-letter-2.ensures, c.letter_digit-digit.ensures) (omega (arith, room, read_small c.args.base (digit c.args.base c.args.tracks c.args.track (get_or c.args.word.now c.loop-letter.letter-index 0)) c.loop-letter.to c.loop-letter.invariant.below small))

pub loop-letter-preserved : goal.loop-letter-preserved
loop-letter-preserved c =
    let inside : get_or c.args.word.now c.loop-letter.letter-index 0 < c.args.base ^ c.args.tracks = c.requires.letters c.loop-letter.letter-index 0 c.loop-letter-test.true in
    let small = digit_below c.args.base c.args.tracks c.args.track (get_or c.args.word.now c.loop-letter.letter-index 0) (omega (arith, c.radix.ensures.low)) c.requires.track inside in
    rw (c.from.ensures, c.radix.ensures.value, c.from-in-loop-letter.ensures, c.radix-in-loop-letter.ensures.value, c.from-in-loop-letter-2.ensures, c.letter_digit-digit.ensures) (read_more c.args.base c.args.tracks c.args.track c.loop-letter.letter-index c.args.word.now c.args.from.now c.loop-letter.to c.loop-letter-test.true small c.loop-letter.invariant)
