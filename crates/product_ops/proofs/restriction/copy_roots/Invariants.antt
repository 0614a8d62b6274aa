use Rattle.std.proofs.Common.{◌≡◌}
use Rattle.step_tables.specs.Kept.{plain}
use Rattle.product_ops.specs.Restriction.{restricted, filled}
use Rattle.product_ops.proofs.restriction.copy_roots.Given as goal

abbrev pub invariant-loop-sign : goal.invariant-loop-sign
invariant-loop-sign g l = l.table ≡ plain (filled (restricted l.source.table) l.sign 0 0)
