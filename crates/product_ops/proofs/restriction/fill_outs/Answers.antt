use Rattle.std.proofs.Common.{rules, ◌<◌, ◌∙◌, ◌*◌, ◌^◌}
use Rattle.lash_model.specs.Tables.{ints, letters}
use Rattle.product_ops.proofs.Copying.{output_filled}
use Rattle.product_ops.proofs.restriction.fill_outs.Goals as goal

pub loop-state-preserved : goal.loop-state-preserved
loop-state-preserved g c =
    let inside : c.loop-state.state < ints c.args.source.now.table = search rules in
    c.set_out.ensures.changed ∙ output_filled c.args.source.now.table c.loop-state.table (2 ^ c.args.source.now.table.tracks) (ints c.args.source.now.table * letters c.args.source.now.table)
    c.loop-state.state c.answer.result c.loop-state.invariant inside c.answer.ensures.value
