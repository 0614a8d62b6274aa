-- The front is of digits.
use Rattle.formula_core.specs.Names.{is_digit}
use Rattle.script_tokens.proofs.Reading.{front_passes}
use Rattle.script_tokens.proofs.token.number_lexeme.Goals as goal

pub number_of-requires : goal.number_of-requires
number_of-requires c = front_passes is_digit c.args.bytes.now c.digits_length-size.result c.digits_length-size.ensures.count
