-- The one variable is real, and the table has fraction states.
use Rattle.std.proofs.Common.{ap, sym, ◌∙◌}
use Rattle.canon_text.proofs.Headed.{one_real}
use Rattle.canon_text.proofs.tests.check_real.Goals as goal

pub check_whole-requires : goal.check_whole-requires
check_whole-requires g c =
    let header = c.in_ok-header.ensures in
    let table = c.in_ok-table.ensures in
    one_real _ _ _ _ (ap (λ h. h.vars) header) (ap (λ h. h.base) header ∙ sym table.0) table.1 table.2

pub check_failing-requires : goal.check_failing-requires
check_failing-requires g c =
    let header = c.in_ok-header.ensures in
    let table = c.in_ok-table.ensures in
    one_real _ _ _ _ (ap (λ h. h.vars) header) (ap (λ h. h.base) header ∙ sym table.0) table.1 table.2
