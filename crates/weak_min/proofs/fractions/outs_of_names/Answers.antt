use Rattle.std.proofs.Common.{◌∙◌}
use Rattle.weak_min.proofs.FractionTables.{output_more}
use Rattle.weak_min.proofs.fractions.outs_of_names.Goals as goal

pub loop-at-preserved : goal.loop-at-preserved
loop-at-preserved g c = c.in-Ok-push.ensures.items ∙ output_more c.args.table.now.table c.args.found.now c.key.result.now c.loop-at.outs.items c.loop-at.at c.out.result c.key.ensures c.loop-at.invariant c.out.ensures.value
