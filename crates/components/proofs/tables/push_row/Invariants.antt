use Rattle.std.proofs.Common.{◌≡◌, ◌+◌, ◌*◌, take}
use Rattle.lash_model.specs.Tables.{letters}
use Rattle.components.proofs.tables.push_row.Given as goal

abbrev pub invariant-loop-letter : goal.invariant-loop-letter
invariant-loop-letter g l = l.rows.items ≡ take (l.state * letters l.table.table + l.letter) l.table.table.frac_rows
