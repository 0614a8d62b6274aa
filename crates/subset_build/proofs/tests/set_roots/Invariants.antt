use Rattle.std.proofs.Common.{◌≡◌}
use Rattle.step_tables.specs.Kept.{wide}
use Rattle.subset_build.proofs.tests.set_roots.Given as goal

abbrev pub invariant-loop-sign : goal.invariant-loop-sign
invariant-loop-sign g l = l.table.bounds ≡ wide
