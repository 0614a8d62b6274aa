use Rattle.std.proofs.Common.{[], refl, sym}
use Rattle.step_tables.proofs.Numbering.{following_more, following_heavy}
use Rattle.std.proofs.lemmas.Option.{get_or_from_slice_get}
use Rattle.step_tables.proofs.breadth_first.follow_anew.Goals as goal

pub returns-in-Err-place-clause-heavy : goal.returns-in-Err-place-clause-heavy
returns-in-Err-place-clause-heavy g c = λ e.
    let followed = rw (← c.table.view_is) at c.requires.followed in
    let at = rw (← c.table.view_is) at c.requires.at in
    let from = sym (get_or_from_slice_get _ c.args.at _ [] c.key.ensures) in
    let none = rw (c.in-Ok.ensures.key, from) at c.in-Err-place.ensures.new e in
    let over = rw (c.in-Ok.ensures.kept, c.in-Ok.ensures.key, from) at c.in-Err-place.ensures.over e in
    following_heavy (g.M.Machine.meaning c.args.machine.now) c.args.at c.args.letter c.args.limit _ followed at c.requires.letter none over

pub returns-clause-followed : goal.returns-clause-followed
returns-clause-followed g c =
    let followed = rw (← c.table.view_is) at c.requires.followed in
    let at = rw (← c.table.view_is) at c.requires.at in
    let from = sym (get_or_from_slice_get _ c.args.at _ [] c.key.ensures) in
    let proper = rw (c.in-Ok.ensures.key, from) at c.in-Ok.ensures.proper in
    let keys = rw (c.in-Ok.ensures.key, from) at c.in-Ok-place.ensures.keys in
    let cells = rw (c.in-Ok.ensures.kept, c.in-Ok.ensures.key, from) at c.in-Ok-place.ensures.cells in
    let place = rw (c.in-Ok.ensures.key, from) at c.in-Ok-place.ensures.place in
    following_more (g.M.Machine.meaning c.args.machine.now) c.args.at c.args.letter _ _ c.in-Ok-place.place followed at c.requires.letter proper keys cells place c.in-Ok-push.ensures.items refl refl
