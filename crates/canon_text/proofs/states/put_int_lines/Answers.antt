-- The lines of the first integer states were put.
use Rattle.std.proofs.Common.{◌<◌, arith, length}
use Rattle.automaton_texts.specs.Text.{int_line}
use Rattle.automaton_texts.proofs.Texts.{upto_more, upto_parted}
use Rattle.lash_io.proofs.Moving.{moves_none, moves_then}
use Rattle.canon_text.proofs.Steps.{cut_in_loop}
use Rattle.canon_text.proofs.states.put_int_lines.Goals as goal

pub loop-state-init : goal.loop-state-init
loop-state-init g c = (moves_none _ _, omega arith)

pub loop-state-preserved : goal.loop-state-preserved
loop-state-preserved g c = (
  rw (upto_more (int_line c.args.table.now.table) c.loop-state.state) (moves_then _ _ _ _ _ _ _ _ c.loop-state.invariant.0 c.in_ok-put_int_line.ensures.bytes),
  omega (arith, c.in_ok-put_int_line.ensures.count),
)

pub returns-in_err-put_int_line-clause-bytes : goal.returns-in_err-put_int_line-clause-bytes
returns-in_err-put_int_line-clause-bytes g c =
    let inside : c.loop-state.state < length c.args.table.now.table.outs = omega arith in
    cut_in_loop c.from_residual.result c.from_residual.ensures.0 _ _ _ _ c.loop-state.invariant.0 c.in_err-put_int_line.ensures.bytes (upto_parted (int_line c.args.table.now.table) c.loop-state.state (length c.args.table.now.table.outs) inside)
