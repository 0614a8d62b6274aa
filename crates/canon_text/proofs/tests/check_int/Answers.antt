-- The one variable is an integer, and the table has no fraction states.
use Rattle.std.proofs.Common.{ap, sym, ◌∙◌}
use Rattle.canon_text.proofs.Headed.{one_int}
use Rattle.canon_text.proofs.tests.check_int.Goals as goal

pub check_whole-requires : goal.check_whole-requires
check_whole-requires g c =
    let header = c.in_ok-header.ensures in
    let table = c.in_ok-table.ensures in
    one_int _ _ _ _ (ap (λ h. h.vars) header) (ap (λ h. h.base) header ∙ sym table.0) table.1 table.2
