use Rattle.std.proofs.Common.{rules, ◌<◌, ◌^◌, ◌∙◌}
use Rattle.lash_model.specs.Tables.{letters}
use Rattle.product_ops.proofs.Copying.{target_copied}
use Rattle.product_ops.proofs.restriction.copy_row.Goals as goal

pub loop-letter-preserved : goal.loop-letter-preserved
loop-letter-preserved g c =
    let inside : c.loop-letter.letter < letters c.args.source.now.table = search rules in
    c.set_int.ensures.changed ∙ target_copied c.args.source.now.table c.loop-letter.table (2 ^ c.args.source.now.table.tracks) c.args.state c.loop-letter.letter c.int_step.result
    c.letters-letter-end.ensures.table c.loop-letter.invariant c.requires.state inside c.int_step.ensures.value
