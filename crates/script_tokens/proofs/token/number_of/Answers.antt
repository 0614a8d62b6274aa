-- One digit more at each turn.
use Rattle.std.proofs.Common.{◌≡◌, ℕ, ◌+◌, ◌-◌, ◌*◌, arith, get_or, min, length, ◌<◌}
use Rattle.script_tokens.proofs.Reading.{number_more, no_digits}
use Rattle.script_tokens.proofs.token.number_of.Goals as goal

pub loop-digit-init : goal.loop-digit-init
loop-digit-init c = no_digits

pub loop-digit-preserved : goal.loop-digit-preserved
loop-digit-preserved c = number_more c.args.digits.now c.loop-digit.digit-index c.loop-digit.number c.min-number.result (omega (arith, c.loop-digit-test.true)) c.loop-digit.invariant c.min-number.ensures
