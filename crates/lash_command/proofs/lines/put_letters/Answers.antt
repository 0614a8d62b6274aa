-- The first letters were put.
use Rattle.std.proofs.Common.{◌<◌, length, arith}
use Rattle.lash_io.proofs.Moving.{moves_then}
use Rattle.canon_text.proofs.Steps.{cut_in_loop}
use Rattle.lash_command.proofs.Letters.{letters_more, letters_on_way}
use Rattle.lash_command.proofs.lines.put_letters.Goals as goal

pub loop-letter-preserved : goal.loop-letter-preserved
loop-letter-preserved g c =
    let inside : c.loop-letter.letter-index < length c.args.letters.now = omega arith in (
      rw (letters_more c.args.letters.now c.loop-letter.letter-index inside) (moves_then _ _ _ _ _ _ _ _ c.loop-letter.invariant.0 c.in_ok-put_letter.ensures.bytes),
      omega (arith, c.in_ok-put_letter.ensures.count),
    )

pub returns-in_err-put_letter-clause-bytes : goal.returns-in_err-put_letter-clause-bytes
returns-in_err-put_letter-clause-bytes g c =
    let inside : c.loop-letter.letter-index < length c.args.letters.now = omega arith in
    cut_in_loop c.from_residual.result c.from_residual.ensures.0 _ _ _ _ c.loop-letter.invariant.0 c.in_err-put_letter.ensures.bytes
    (letters_on_way c.args.letters.now c.loop-letter.letter-index inside)
