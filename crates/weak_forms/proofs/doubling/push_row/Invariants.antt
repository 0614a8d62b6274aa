use Rattle.std.proofs.Common.{◌≡◌}
use Rattle.lash_model.specs.Tables.{letters}
use Rattle.weak_forms.specs.Doubling.{AreDoubled}
use Rattle.weak_forms.proofs.doubling.push_row.Given as goal

abbrev pub invariant-loop-letter : goal.invariant-loop-letter
invariant-loop-letter l = (l.letter-end ≡ letters l.table.table) × AreDoubled l.table.table l.state l.letter l.rows.items
