use Rattle.std.proofs.Common.{arith}
use Rattle.step_tables.proofs.Numbering.{starting_none, following_none, explored, linked}
use Rattle.step_tables.proofs.breadth_first.explore.Goals as goal

pub begin_all-requires-clause-begun : goal.begin_all-requires-clause-begun
begin_all-requires-clause-begun g c = rw c.in-Ok.ensures (starting_none (g.M.Machine.meaning c.args.machine.now))

pub follow_all-requires-clause-followed : goal.follow_all-requires-clause-followed
follow_all-requires-clause-followed g c = rw c.in-Ok-begin_all.ensures.kept (following_none (g.M.Machine.meaning c.args.machine.now) c.begin_all.new.table c.in-Ok-begin_all.ensures.begun)

pub new-requires : goal.new-requires
new-requires g c =
    let m = g.M.Machine.meaning c.args.machine.now in
    linked m c.args.limit c.follow_all.new.table
    (explored m c.args.limit c.follow_all.new.table (rw c.in-Ok-begin_all.ensures.kept at c.in-Ok-follow_all.ensures.followed) c.in-Ok-follow_all.ensures.within)
    (omega (arith, c.requires.limit))

pub returns-in-Ok-follow_all-clause-explored : goal.returns-in-Ok-follow_all-clause-explored
returns-in-Ok-follow_all-clause-explored g c =
    let m = g.M.Machine.meaning c.args.machine.now in
    rw c.new.ensures (explored m c.args.limit c.follow_all.new.table (rw c.in-Ok-begin_all.ensures.kept at c.in-Ok-follow_all.ensures.followed) c.in-Ok-follow_all.ensures.within)
