use Rattle.std.proofs.Common.{◌*◌, arith}
use Rattle.lash_model.specs.Tables.{letters, fracs}
use Rattle.step_tables.proofs.RowsOf.{row_is, row_within}
use Rattle.step_tables.proofs.rows.write_frac_row.Goals as goal

pub returns-clause-row : goal.returns-clause-row
returns-clause-row g c = row_is c.loop-letter.row c.args.table.now.table.frac_rows (letters c.args.table.now.table) (c.args.state * letters c.args.table.now.table) c.loop-letter.invariant.0 (row_within c.args.state (fracs c.args.table.now.table) (letters c.args.table.now.table) c.args.table.now.table.frac_rows c.requires.state c.letters-letter-end.ensures.table.frac_rows_count) (λ k h. c.loop-letter.invariant.1 k (omega (arith, h, c.letters-letter-end.ensures.value, c.loop-letter-test.false)))
