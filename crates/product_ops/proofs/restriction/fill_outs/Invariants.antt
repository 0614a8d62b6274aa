use Rattle.std.proofs.Common.{◌≡◌, ◌*◌, ◌^◌}
use Rattle.lash_model.specs.Tables.{letters, ints}
use Rattle.step_tables.specs.Kept.{plain}
use Rattle.product_ops.specs.Restriction.{restricted, filled}
use Rattle.product_ops.proofs.restriction.fill_outs.Given as goal

abbrev pub invariant-loop-state : goal.invariant-loop-state
invariant-loop-state g l = l.table ≡ plain (filled (restricted l.source.table) (2 ^ l.source.table.tracks) (ints l.source.table * letters l.source.table) l.state)
