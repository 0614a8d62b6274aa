use Rattle.std.proofs.Common.{arith, ◌≡◌, ◌+◌, ◌-◌, ◌*◌, ◌/◌, ◌%◌, ◌^◌, ◌∙◌, ap, ap₂, ℕ}
use Rattle.lash_model.proofs.Digits.{power_positive}
use Rattle.subset_build.proofs.KeptLetters.{stride_room, next_room, are_over}
use Rattle.subset_build.proofs.kept_letters.letters_over.Goals as goal

pub pow-stride-requires : goal.pow-stride-requires
pow-stride-requires c = omega (arith, stride_room c.args.base c.args.kept c.args.track (omega (arith, c.radix-radix.ensures.low)) c.requires.few, ap (λ r. r ^ (c.args.kept - c.args.track)) c.radix-radix.ensures.value)

pub nonzero_div-high : goal.nonzero_div-high
nonzero_div-high c = omega (arith, c.pow-stride.ensures, power_positive c.radix-radix.result (c.args.kept - c.args.track) (omega (arith, c.radix-radix.ensures.low, c.radix-radix.ensures.value)))

pub nonzero_rem-result : goal.nonzero_rem-result
nonzero_rem-result c = omega (arith, c.pow-stride.ensures, power_positive c.radix-radix.result (c.args.kept - c.args.track) (omega (arith, c.radix-radix.ensures.low, c.radix-radix.ensures.value)))

pub overflow_mul-high : goal.overflow_mul-high
overflow_mul-high c =
    let stride : c.pow-stride.result ≡ c.args.base ^ (c.args.kept - c.args.track) = c.pow-stride.ensures ∙ ap (λ r. r ^ (c.args.kept - c.args.track)) c.radix-radix.ensures.value in
    omega (arith, next_room c.args.base c.args.kept c.args.track (omega (arith, c.radix-radix.ensures.low)) c.requires.few, ap₂ (λ (s r : ℕ). s * r) stride c.radix-radix.ensures.value)

pub returns : goal.returns
returns c =
    are_over c.args.base c.args.kept c.args.track c.args.letter (c.args.letter / c.pow-stride.result * (c.pow-stride.result * c.radix-radix.result) + c.args.letter % c.pow-stride.result) c.pow-stride.result c.radix-radix.result
    (omega (arith, c.radix-radix.ensures.low))
    c.requires.letter
    c.requires.track
    c.radix-radix.ensures.value
    (c.pow-stride.ensures ∙ ap (λ r. r ^ (c.args.kept - c.args.track)) c.radix-radix.ensures.value)
    (omega arith)
