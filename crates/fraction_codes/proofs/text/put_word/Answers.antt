-- The digits of the first letters were put.
use Rattle.std.proofs.Common.{take, arith}
use Rattle.fraction_codes.specs.DigitText.{word_text}
use Rattle.lash_io.proofs.Moving.{moves_then}
use Rattle.fraction_codes.proofs.Digits.{word_text_more, word_text_whole}
use Rattle.fraction_codes.proofs.Putting.{cut_in_loop}
use Rattle.fraction_codes.proofs.text.put_word.Goals as goal

pub loop-letter-preserved : goal.loop-letter-preserved
loop-letter-preserved g c =
    let p = c.args.place.now in (
      rw (word_text_more p.base p.tracks p.track c.args.word.now c.loop-letter.letter-index c.loop-letter-test.true) (moves_then _ _ _ _ _ _ _ _ c.loop-letter.invariant.0 c.in_ok-put_letter.ensures.bytes),
      omega (arith, c.in_ok-put_letter.ensures.count),
    )

pub returns-in_err-put_letter-clause-bytes : goal.returns-in_err-put_letter-clause-bytes
returns-in_err-put_letter-clause-bytes g c =
    cut_in_loop {xs = word_text c.args.place.now.base c.args.place.now.tracks c.args.place.now.track (take c.loop-letter.letter-index c.args.word.now)} c.from_residual.result c.from_residual.ensures.0 _ _ _ _ _ c.loop-letter.invariant.0 c.in_err-put_letter.ensures.bytes (word_text_whole c.args.place.now.base c.args.place.now.tracks c.args.place.now.track c.args.word.now c.loop-letter.letter-index c.loop-letter-test.true)
