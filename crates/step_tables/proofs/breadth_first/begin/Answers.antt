use Rattle.std.proofs.Common.{refl}
use Rattle.step_tables.proofs.Numbering.{starting_more, starting_heavy}
use Rattle.step_tables.proofs.breadth_first.begin.Goals as goal

pub returns-in-Err-place-clause-heavy : goal.returns-in-Err-place-clause-heavy
returns-in-Err-place-clause-heavy g c = λ e.
    let begun = rw (← c.table.view_is) at c.requires.begun in
    let none = rw c.in-Ok.ensures.key at c.in-Err-place.ensures.new e in
    let over = rw (c.in-Ok.ensures.kept, c.in-Ok.ensures.key) at c.in-Err-place.ensures.over e in
    starting_heavy (g.M.Machine.meaning c.args.machine.now) c.args.at c.args.limit _ begun c.requires.at none over

pub returns-clause-begun : goal.returns-clause-begun
returns-clause-begun g c =
    let begun = rw (← c.table.view_is) at c.requires.begun in
    let proper = rw c.in-Ok.ensures.key at c.in-Ok.ensures.proper in
    let keys = rw c.in-Ok.ensures.key at c.in-Ok-place.ensures.keys in
    let cells = rw (c.in-Ok.ensures.kept, c.in-Ok.ensures.key) at c.in-Ok-place.ensures.cells in
    let place = rw c.in-Ok.ensures.key at c.in-Ok-place.ensures.place in
    starting_more (g.M.Machine.meaning c.args.machine.now) c.args.at _ _ c.in-Ok-place.place begun c.requires.at proper keys cells place c.in-Ok-push.ensures.items refl refl
