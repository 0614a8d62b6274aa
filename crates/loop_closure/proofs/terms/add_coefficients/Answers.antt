use Rattle.std.proofs.Common.{arith}
use Rattle.matrix_powers.specs.Matrices.{power_entry}
use Rattle.loop_closure.proofs.FillingRows.{filling_start, filling_fresh, filling_more}
use Rattle.loop_closure.proofs.terms.add_coefficients.Goals as goal

pub loop-column-init : goal.loop-column-init
loop-column-init c = filling_start (power_entry c.args.builder.now.orbit.matrix c.args.turns c.args.row) c.args.term.now c.requires.none

pub add_coefficient-requires-clause-fresh : goal.add_coefficient-requires-clause-fresh
add_coefficient-requires-clause-fresh c = filling_fresh (power_entry c.args.builder.now.orbit.matrix c.args.turns c.args.row) c.loop-column.column c.loop-column.column c.loop-column.term _ c.loop-column.invariant.filled (omega arith)

pub loop-column-preserved : goal.loop-column-preserved
loop-column-preserved c = filling_more (power_entry c.args.builder.now.orbit.matrix c.args.turns c.args.row) c.loop-column.column c.loop-column.term c.add_coefficient.new.term c.args.term.now c.loop-column.invariant c.in-Ok.ensures.added c.in-Ok.ensures.small
