use Rattle.std.proofs.Common.{◌≡◌, ◌≤◌, ◌-◌, length}
use Rattle.lash_model.specs.Tables.{letters, fracs}
use Rattle.product_ops.specs.Restriction.{AreEnds}
use Rattle.product_ops.proofs.restriction.ends_of_zeros.Given as goal

abbrev pub invariant-loop-zeros : goal.invariant-loop-zeros
invariant-loop-zeros g l = record {
  count : length l.ends.items ≡ fracs l.table.table;
  some : 1 ≤ l.zeros;
  ends : AreEnds l.table.table.frac_rows (letters l.table.table) l.zeros l.ends.items;
}

abbrev pub decreases-loop-zeros : goal.decreases-loop-zeros
decreases-loop-zeros g l = fracs l.table.table - l.zeros
