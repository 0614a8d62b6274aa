use Rattle.fraction_codes.proofs.Digits.{few_signs}
use Rattle.fraction_codes.proofs.text.put_sign.Goals as goal

pub sign_digit-bit-requires-clause-few : goal.sign_digit-bit-requires-clause-few
sign_digit-bit-requires-clause-few g c = few_signs c.args.place.now.base c.args.place.now.tracks c.requires.place.low c.requires.place.few
