use Rattle.std.proofs.Common.{◌≡◌, take}
use Rattle.weak_min.proofs.copies.colours_of.Given as goal

abbrev pub invariant-loop-state : goal.invariant-loop-state
invariant-loop-state g l = l.colours.items ≡ take l.state l.table.table.colours
