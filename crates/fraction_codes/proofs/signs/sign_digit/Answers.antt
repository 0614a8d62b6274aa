use Rattle.std.proofs.Common.{◌+◌, ◌-◌, ◌≤◌, ℕ, arith}
use Rattle.fraction_codes.proofs.Digits.{shorter_few, sign_quotient}
use Rattle.fraction_codes.proofs.signs.sign_digit.Goals as goal

pub pow-requires : goal.pow-requires
pow-requires c = omega (arith, shorter_few 2 c.args.tracks (c.args.tracks - (c.args.track + 1)) 4096 (omega arith) (fewer c.args.tracks (c.args.track + 1)) c.requires.few)
  where
    fewer : (n k : ℕ) → n - k ≤ n
    fewer n k = omega arith

pub returns-clause-value : goal.returns-clause-value
returns-clause-value c = rw c.pow.ensures (sign_quotient c.args.tracks c.args.track c.args.sign c.requires.track c.requires.sign)
