use Rattle.std.proofs.Common.{arith, ◌≡◌, ◌^◌, ◌<◌, ◌∙◌, ap, sym, subst, refl}
use Rattle.lash_model.specs.Letters.{digit}
use Rattle.subset_build.proofs.KeptLetters.{few_signs, signs_upto, signs_none, signs_more, signs_all, signs_room, sign_letter_below}
use Rattle.subset_build.proofs.kept_letters.sign_letter.Goals as goal

pub loop-track-init : goal.loop-track-init
loop-track-init c = signs_none c.args.base c.args.tracks c.args.sign 0 refl

pub letter_digit-bit-requires-clause-few : goal.letter_digit-bit-requires-clause-few
letter_digit-bit-requires-clause-few c = omega (arith, few_signs c.args.base c.args.tracks c.radix-radix.ensures.low c.requires.few, ap (λ r. r ^ c.args.tracks) c.sign_base-two.ensures)

pub overflow_mul-letter : goal.overflow_mul-letter
overflow_mul-letter c =
    let bit : c.letter_digit-bit.result ≡ digit 2 c.args.tracks c.loop-track.track c.args.sign = c.letter_digit-bit.ensures ∙ ap (λ two. digit two c.args.tracks c.loop-track.track c.args.sign) c.sign_base-two.ensures in
    omega (arith, signs_room c.args.base c.args.tracks c.loop-track.track c.args.sign c.loop-track.letter c.radix-radix.result c.letter_digit-bit.result c.radix-radix.ensures.low c.requires.sign c.loop-track-test.true c.requires.few c.loop-track.invariant c.radix-radix.ensures.value bit)

pub overflow_mul-letter-in-loop-track : goal.overflow_mul-letter-in-loop-track
overflow_mul-letter-in-loop-track c =
    let bit : c.letter_digit-bit.result ≡ digit 2 c.args.tracks c.loop-track.track c.args.sign = c.letter_digit-bit.ensures ∙ ap (λ two. digit two c.args.tracks c.loop-track.track c.args.sign) c.sign_base-two.ensures in
    omega (arith, signs_room c.args.base c.args.tracks c.loop-track.track c.args.sign c.loop-track.letter c.radix-radix.result c.letter_digit-bit.result c.radix-radix.ensures.low c.requires.sign c.loop-track-test.true c.requires.few c.loop-track.invariant c.radix-radix.ensures.value bit)

pub overflow_add-letter : goal.overflow_add-letter
overflow_add-letter c =
    let bit : c.letter_digit-bit.result ≡ digit 2 c.args.tracks c.loop-track.track c.args.sign = c.letter_digit-bit.ensures ∙ ap (λ two. digit two c.args.tracks c.loop-track.track c.args.sign) c.sign_base-two.ensures in
    omega (arith, signs_room c.args.base c.args.tracks c.loop-track.track c.args.sign c.loop-track.letter c.radix-radix.result c.letter_digit-bit.result c.radix-radix.ensures.low c.requires.sign c.loop-track-test.true c.requires.few c.loop-track.invariant c.radix-radix.ensures.value bit)

pub loop-track-preserved : goal.loop-track-preserved
loop-track-preserved c =
    let bit : c.letter_digit-bit.result ≡ digit 2 c.args.tracks c.loop-track.track c.args.sign = c.letter_digit-bit.ensures ∙ ap (λ two. digit two c.args.tracks c.loop-track.track c.args.sign) c.sign_base-two.ensures in
    signs_more c.args.base c.args.tracks c.loop-track.track c.args.sign c.loop-track.letter c.radix-radix.result c.letter_digit-bit.result c.loop-track-test.true c.loop-track.invariant c.radix-radix.ensures.value bit

pub returns-clause-value : goal.returns-clause-value
returns-clause-value c =
    let end : c.loop-track.track ≡ c.args.tracks = omega (arith, c.loop-track-test.false, c.loop-track.auto.track-end) in
    c.loop-track.invariant ∙ ap (λ i. signs_upto c.args.base c.args.tracks i c.args.sign) end ∙ signs_all c.args.base c.args.tracks c.args.sign

pub returns-clause-below : goal.returns-clause-below
returns-clause-below c =
    let end : c.loop-track.track ≡ c.args.tracks = omega (arith, c.loop-track-test.false, c.loop-track.auto.track-end) in
    subst (λ x. x < c.args.base ^ c.args.tracks) (sym (c.loop-track.invariant ∙ ap (λ i. signs_upto c.args.base c.args.tracks i c.args.sign) end ∙ signs_all c.args.base c.args.tracks c.args.sign)) (sign_letter_below c.args.base c.args.tracks c.args.sign c.radix-radix.ensures.low c.requires.sign)
