use Rattle.std.proofs.Common.{refl, arith, ◌≤◌, ◌-◌, ◌+◌, ℕ}
use Rattle.std.proofs.Math.Nat.{pow-le-pow_right}
use Rattle.lash_model.proofs.Digits.{digit-quotient, power_positive}
use Rattle.digit_codes.proofs.letter.letter_digit.Goals as goal

pub pow-requires : goal.pow-requires
pow-requires c =
    rw c.radix.ensures.value
    (omega (arith, pow-le-pow_right {n = c.args.base} (omega (arith, c.radix.ensures.low)) (fewer c.args.tracks (c.args.track + 1)), c.requires.few))
  where
    fewer : (n k : ℕ) → n - k ≤ n
    fewer n k = omega arith

pub nonzero_div-result : goal.nonzero_div-result
nonzero_div-result c =
    rw (c.pow.ensures, c.radix.ensures.value) (power_positive c.args.base (c.args.tracks - (c.args.track + 1)) (omega (arith, c.radix.ensures.low)))

pub returns : goal.returns
returns c =
    rw (c.radix-2.ensures.value, c.pow.ensures, c.radix.ensures.value)
    (rw (digit-quotient c.args.base c.args.tracks c.args.track c.args.letter (omega (arith, c.radix.ensures.low)) c.requires.track c.requires.letter) refl)
