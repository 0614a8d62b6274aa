-- The roots of the first sign vectors were put.
use Rattle.std.proofs.Common.{◌^◌, slice_index_or, ◌<◌, arith}
use Rattle.automaton_texts.specs.Text.{number_text}
use Rattle.automaton_texts.proofs.Texts.{upto_more, upto_parted}
use Rattle.lash_io.proofs.Moving.{moves_none, moves_then}
use Rattle.canon_text.proofs.Steps.{cut_in_loop}
use Rattle.canon_text.proofs.lines.put_roots.Goals as goal

pub loop-sign-init : goal.loop-sign-init
loop-sign-init g c = (moves_none _ _, omega arith)

pub loop-sign-preserved : goal.loop-sign-preserved
loop-sign-preserved g c = (
  rw (upto_more (λ sign. number_text (slice_index_or c.args.table.now.table.roots sign 0)) c.loop-sign.sign, ← c.root.ensures.value) (moves_then _ _ _ _ _ _ _ _ c.loop-sign.invariant.0 c.in_ok-put_spaced.ensures.bytes),
  omega (arith, c.in_ok-put_spaced.ensures.count),
)

pub returns-in_err-put_spaced-clause-bytes : goal.returns-in_err-put_spaced-clause-bytes
returns-in_err-put_spaced-clause-bytes g c =
    let inside : c.loop-sign.sign < 2 ^ c.args.table.now.table.tracks = omega arith in
    cut_in_loop c.from_residual.result c.from_residual.ensures.0 _ _ _ _ c.loop-sign.invariant.0 c.in_err-put_spaced.ensures.bytes (rw c.root.ensures.value (upto_parted (λ sign. number_text (slice_index_or c.args.table.now.table.roots sign 0)) c.loop-sign.sign (2 ^ c.args.table.now.table.tracks) inside))
