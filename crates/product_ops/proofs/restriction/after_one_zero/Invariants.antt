use Rattle.lash_model.specs.Tables.{letters, fracs}
use Rattle.product_ops.specs.Restriction.{AreFirstEnds}
use Rattle.product_ops.proofs.restriction.after_one_zero.Given as goal

abbrev pub invariant-loop-state : goal.invariant-loop-state
invariant-loop-state g l = AreFirstEnds l.table.table.frac_rows (letters l.table.table) (fracs l.table.table) l.state l.ends.items
