use Rattle.std.proofs.Common.{◌≡◌, ◌*◌, take}
use Rattle.lash_model.specs.Tables.{letters}
use Rattle.components.proofs.tables.frac_rows_of.Given as goal

abbrev pub invariant-loop-state : goal.invariant-loop-state
invariant-loop-state g l = l.rows.items ≡ take (l.state * letters l.table.table) l.table.table.frac_rows
