-- The targets of the first letters were put.
use Rattle.std.proofs.Common.{◌+◌, ◌*◌, ◌^◌, slice_index_or, ◌<◌, arith}
use Rattle.automaton_texts.specs.Text.{number_text}
use Rattle.automaton_texts.proofs.Texts.{upto_more, upto_parted}
use Rattle.lash_io.proofs.Moving.{moves_none, moves_then}
use Rattle.canon_text.proofs.Steps.{cut_in_loop}
use Rattle.canon_text.proofs.states.put_frac_targets.Goals as goal

pub loop-letter-init : goal.loop-letter-init
loop-letter-init g c = (moves_none _ _, omega arith)

pub loop-letter-preserved : goal.loop-letter-preserved
loop-letter-preserved g c = (
  rw (upto_more (λ letter. number_text (slice_index_or c.args.table.now.table.frac_rows (c.args.state * c.args.table.now.table.base ^ c.args.table.now.table.tracks + letter) 0)) c.loop-letter.letter, ← c.frac_step.ensures.value) (moves_then _ _ _ _ _ _ _ _ c.loop-letter.invariant.0 c.in_ok-put_spaced.ensures.bytes),
  omega (arith, c.in_ok-put_spaced.ensures.count),
)

pub returns-in_err-put_spaced-clause-bytes : goal.returns-in_err-put_spaced-clause-bytes
returns-in_err-put_spaced-clause-bytes g c =
    let inside : c.loop-letter.letter < c.args.table.now.table.base ^ c.args.table.now.table.tracks = omega arith in
    cut_in_loop c.from_residual.result c.from_residual.ensures.0 _ _ _ _ c.loop-letter.invariant.0 c.in_err-put_spaced.ensures.bytes (rw c.frac_step.ensures.value (upto_parted (λ letter. number_text (slice_index_or c.args.table.now.table.frac_rows (c.args.state * c.args.table.now.table.base ^ c.args.table.now.table.tracks + letter) 0)) c.loop-letter.letter (c.args.table.now.table.base ^ c.args.table.now.table.tracks) inside))
