use Rattle.std.proofs.Common.{arith}
use Rattle.fraction_codes.proofs.Digits.{digit_below}
use Rattle.fraction_codes.proofs.text.put_letter.Goals as goal

pub put_digit-requires : goal.put_digit-requires
put_digit-requires g c =
    let p = c.args.place.now in
    omega (arith, c.letter_digit.ensures, c.requires.place.high, digit_below p.base p.tracks p.track c.args.letter (omega (arith, c.requires.place.low)) c.requires.place.track c.requires.letter)
