use Rattle.std.proofs.Common.{◌≡◌, ◌*◌, ◌^◌}
use Rattle.lash_model.specs.Tables.{letters}
use Rattle.step_tables.specs.Kept.{plain}
use Rattle.product_ops.specs.Restriction.{restricted, filled}
use Rattle.product_ops.proofs.restriction.copy_rows.Given as goal

abbrev pub invariant-loop-state : goal.invariant-loop-state
invariant-loop-state g l = l.table ≡ plain (filled (restricted l.source.table) (2 ^ l.source.table.tracks) (l.state * letters l.source.table) 0)
