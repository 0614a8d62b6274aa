use Rattle.std.proofs.Common.{◌≡◌, ◌*◌}
use Rattle.lash_model.specs.Tables.{fracs}
use Rattle.weak_forms.specs.Doubling.{AreDoubled}
use Rattle.weak_forms.proofs.doubling.doubled_rows.Given as goal

abbrev pub invariant-loop-state : goal.invariant-loop-state
invariant-loop-state l = (l.state-end ≡ 2 * fracs l.table.table) × AreDoubled l.table.table l.state 0 l.rows.items
