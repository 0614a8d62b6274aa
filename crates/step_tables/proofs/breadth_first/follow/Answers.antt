use Rattle.std.proofs.Common.{refl}
use Rattle.step_tables.proofs.Numbering.{following_known}
use Rattle.step_tables.proofs.breadth_first.follow.Goals as goal

pub returns-clause-followed : goal.returns-clause-followed
returns-clause-followed g c =
    let followed = rw (← c.table.view_is) at c.requires.followed in
    let at = rw (← c.table.view_is) at c.requires.at in
    following_known (g.M.Machine.meaning c.args.machine.now) c.args.at c.args.letter _ _ c.in-Some.place followed at c.requires.letter refl refl c.in-Some.ensures c.in-Ok.ensures.items refl refl
