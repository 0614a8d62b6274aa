-- The lines of the first variables were put.
use Rattle.std.proofs.Common.{◌<◌, arith}
use Rattle.automaton_texts.proofs.Texts.{upto_more, upto_parted}
use Rattle.lash_io.proofs.Moving.{moves_none, moves_then}
use Rattle.canon_text.proofs.Steps.{cut_in_loop}
use Rattle.set_answers.specs.Writing.{line_of}
use Rattle.set_answers.proofs.lines.put_lines.Goals as goal

pub loop-at-init : goal.loop-at-init
loop-at-init g c = (moves_none _ _, omega arith)

pub loop-at-preserved : goal.loop-at-preserved
loop-at-preserved g c = (
  rw (upto_more (line_of c.args.answer.now) c.loop-at.at) (moves_then _ _ _ _ _ _ _ _ c.loop-at.invariant.0 c.in_ok-put_line.ensures.bytes),
  omega (arith, c.in_ok-put_line.ensures.count),
)

pub returns-in_err-put_line-clause-bytes : goal.returns-in_err-put_line-clause-bytes
returns-in_err-put_line-clause-bytes g c =
    let inside : c.loop-at.at < c.args.answer.now.tracks = omega arith in
    cut_in_loop c.from_residual.result c.from_residual.ensures.0 _ _ _ _ c.loop-at.invariant.0 c.in_err-put_line.ensures.bytes (upto_parted (line_of c.args.answer.now) c.loop-at.at c.args.answer.now.tracks inside)
