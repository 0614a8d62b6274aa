use Rattle.std.proofs.Common.{◌≡◌, take}
use Rattle.part_laws.specs.ClassTables.{class_outs}
use Rattle.weak_min.proofs.fractions.outs_by_class.Given as goal

abbrev pub invariant-loop-state : goal.invariant-loop-state
invariant-loop-state g l = l.outs.items ≡ take l.state (class_outs l.table.table l.fraction_classes)
