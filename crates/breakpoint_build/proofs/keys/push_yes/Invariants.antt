use Rattle.std.proofs.Common.{◌≡◌, ◌++◌, take}
use Rattle.breakpoint_laws.specs.Breakpoints.{yes_states}
use Rattle.breakpoint_build.proofs.keys.push_yes.Given as goal

abbrev pub invariant-loop-state : goal.invariant-loop-state
invariant-loop-state g l = l.into.items ≡ l.initial.into.items ++ yes_states l.table.table (take l.state-index l.states)
