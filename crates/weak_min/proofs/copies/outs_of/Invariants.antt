use Rattle.std.proofs.Common.{◌≡◌, take}
use Rattle.weak_min.proofs.copies.outs_of.Given as goal

abbrev pub invariant-loop-state : goal.invariant-loop-state
invariant-loop-state g l = l.outs.items ≡ take l.state l.table.table.outs
