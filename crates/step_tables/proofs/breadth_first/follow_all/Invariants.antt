use Rattle.std.proofs.Common.{◌≡◌, ◌≤◌, ◌-◌, length}
use Rattle.step_tables.specs.Gathering.{Following}
use Rattle.step_tables.proofs.breadth_first.follow_all.Given as goal

abbrev pub invariant-loop-at : goal.invariant-loop-at
invariant-loop-at g l =
    (g.M.Machine.meaning l.machine ≡ g.M.Machine.meaning l.initial.machine)
    × (l.table.cells ≤ l.limit)
    × (l.at ≤ length l.table.keys)
    × Following (g.M.Machine.meaning l.initial.machine) l.at 0 l.table

abbrev pub decreases-loop-at : goal.decreases-loop-at
decreases-loop-at g l = l.limit - l.at
