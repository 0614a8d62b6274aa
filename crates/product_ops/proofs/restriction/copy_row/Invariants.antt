use Rattle.std.proofs.Common.{◌≡◌, ◌+◌, ◌*◌, ◌^◌}
use Rattle.lash_model.specs.Tables.{letters}
use Rattle.step_tables.specs.Kept.{plain}
use Rattle.product_ops.specs.Restriction.{restricted, filled}
use Rattle.product_ops.proofs.restriction.copy_row.Given as goal

abbrev pub invariant-loop-letter : goal.invariant-loop-letter
invariant-loop-letter g l = l.table ≡ plain (filled (restricted l.source.table) (2 ^ l.source.table.tracks) (l.state * letters l.source.table + l.letter) 0)
