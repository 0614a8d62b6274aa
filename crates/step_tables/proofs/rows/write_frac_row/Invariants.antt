use Rattle.std.proofs.Common.{ℕ, ◌≡◌, ◌<◌, ◌+◌, ◌*◌, length, slice_index}
use Rattle.lash_model.specs.Tables.{letters}
use Rattle.step_tables.proofs.rows.write_frac_row.Given as goal

-- the first targets were written
abbrev pub invariant-loop-letter : goal.invariant-loop-letter
invariant-loop-letter g l =
    (length l.row ≡ letters l.table.table)
    × ((k : ℕ) → k < l.letter → slice_index l.row k ≡ slice_index l.table.table.frac_rows (l.state * letters l.table.table + k))
