use Rattle.std.proofs.Common.{◌≡◌, take}
use Rattle.weak_min.proofs.copies.roots_of.Given as goal

abbrev pub invariant-loop-sign : goal.invariant-loop-sign
invariant-loop-sign g l = l.roots.items ≡ take l.sign l.table.table.roots
