use Rattle.std.proofs.Common.{◌≡◌, take}
use Rattle.breakpoint_build.specs.BreakpointMachines.{outputs_of}
use Rattle.breakpoint_build.proofs.keys.write_outputs.Given as goal

abbrev pub invariant-loop-state : goal.invariant-loop-state
invariant-loop-state g l = l.into.items ≡ outputs_of l.table.table (take l.state-index l.set)
