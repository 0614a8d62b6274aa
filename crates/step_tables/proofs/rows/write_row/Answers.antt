use Rattle.std.proofs.Common.{◌-◌, arith}
use Rattle.step_tables.proofs.RowsOf.{next_int_row, next_frac_row, no_row}
use Rattle.step_tables.proofs.rows.write_row.Goals as goal

pub returns-then-place-ints-clause-some : goal.returns-then-place-ints-clause-some
returns-then-place-ints-clause-some g c = λ _. rw c.write_int_row.ensures.row (next_int_row c.args.table.now.table c.args.place (omega (arith, c.if-place-ints.true, c.ints-ints.ensures)))

pub returns-then-place-ints-2-clause-some : goal.returns-then-place-ints-2-clause-some
returns-then-place-ints-2-clause-some g c =
    λ _. rw c.write_frac_row.ensures.row (next_frac_row c.args.table.now.table c.args.place (c.args.place - c.ints-ints.result) (omega (arith, c.if-place-ints.false, c.ints-ints.ensures)) (omega (arith, c.if-place-ints-2.true, c.fracs.ensures)))

pub returns-clause-none : goal.returns-clause-none
returns-clause-none g c = λ _. no_row c.args.table.now.table c.args.place (omega (arith, c.if-place-ints.false, c.if-place-ints-2.false, c.ints-ints.ensures, c.fracs.ensures))
