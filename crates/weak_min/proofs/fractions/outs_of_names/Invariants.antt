use Rattle.std.proofs.Common.{◌≡◌, take}
use Rattle.part_laws.specs.ClassTables.{named_outs}
use Rattle.weak_min.proofs.fractions.outs_of_names.Given as goal

abbrev pub invariant-loop-at : goal.invariant-loop-at
invariant-loop-at g l = l.outs.items ≡ take l.at (named_outs l.table.table l.found)
