use Rattle.weak_forms.proofs.TornStates.{tell_clear}
use Rattle.weak_forms.proofs.torn.clear_parts.Goals as goal

pub returns-in-Ok : goal.returns-in-Ok
returns-in-Ok c =
    let parts = rw (c.letters.ensures.value, c.copies.ensures) at c.in-Ok.ensures in
    tell_clear c.args.table.now.table c.letters.ensures.table c.args.rows.now c.in-Ok.parts c.requires parts
