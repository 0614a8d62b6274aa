use Rattle.std.proofs.Common.{◌≡◌, ◌^◌, ◌∙◌, ap}
use Rattle.std.proofs.lemmas.Result.{IfOk-weaker}
use Rattle.fraction_codes.specs.LongDivision.{letters_of}
use Rattle.fraction_codes.specs.Steps.{IsWholeWord}
use Rattle.fraction_codes.proofs.Coding.{whole_word_is}
use Rattle.fraction_codes.proofs.encoding.whole_word.Goals as goal

pub returns : goal.returns
returns c = IfOk-weaker c.divide_on.result (λ w. w ≡ letters_of c.args.radix c.pow-power.result c.whole_length-length.result c.deref_mut.result.now) (λ w. IsWholeWord c.args.radix c.args.values.now w) (λ w e. whole_word_is c.args.radix c.whole_length-length.result c.pow-power.result c.args.values.now c.deref_mut.result.now w c.whole_length-length.ensures.count (c.pow-power.ensures ∙ ap (λ b. b ^ c.whole_length-length.result) c.from.ensures) (c.deref_mut.ensures.value ∙ c.in_ok-rests.ensures.value) e) c.divide_on.ensures.letters
