-- The first variables were put.
use Rattle.std.proofs.Common.{◌<◌, length, arith}
use Rattle.lash_io.proofs.Moving.{moves_then}
use Rattle.canon_text.proofs.Listed.{variable_more, variable_on_way}
use Rattle.canon_text.proofs.Steps.{cut_in_loop}
use Rattle.canon_text.proofs.lines.put_variables.Goals as goal

pub loop-at-preserved : goal.loop-at-preserved
loop-at-preserved g c =
    let inside : c.loop-at.at < length c.args.vars.now = omega arith in (
      rw (variable_more c.args.vars.now c.sorts.result.now c.name.result.now c.loop-at.at inside c.name.ensures.name c.sorts.ensures) (moves_then _ _ _ _ _ _ _ _ c.loop-at.invariant.0 c.in_ok-put_variable.ensures.bytes),
      omega (arith, c.in_ok-put_variable.ensures.count),
    )

pub returns-in_err-put_variable-clause-bytes : goal.returns-in_err-put_variable-clause-bytes
returns-in_err-put_variable-clause-bytes g c =
    let inside : c.loop-at.at < length c.args.vars.now = omega arith in
    cut_in_loop c.from_residual.result c.from_residual.ensures.0 _ _ _ _ c.loop-at.invariant.0 c.in_err-put_variable.ensures.bytes (variable_on_way c.args.vars.now c.sorts.result.now c.name.result.now c.loop-at.at inside c.name.ensures.name c.sorts.ensures)
