use Rattle.std.proofs.Common.{◌≡◌, take}
use Rattle.set_compile.specs.Positions.{positions}
use Rattle.set_compile.proofs.positions.positions.Given as goal

abbrev pub invariant-loop-place : goal.invariant-loop-place
invariant-loop-place l = l.found.items ≡ positions l.within (take l.place-index l.places)
