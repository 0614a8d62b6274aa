use Rattle.std.proofs.Common.{◌<◌, arith}
use Rattle.lash_model.specs.Tables.{fracs}
use Rattle.set_answers.proofs.inclusion.accepts_nothing.Goals as goal

pub accepts_no_lasso-requires-clause-weak : goal.accepts_no_lasso-requires-clause-weak
accepts_no_lasso-requires-clause-weak c =
    let some : 0 < fracs c.args.table.now.table = omega arith in
    c.requires some
