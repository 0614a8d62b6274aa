use Rattle.std.proofs.Common.{◌≡◌, ◌≤◌, length}
use Rattle.step_tables.specs.Gathering.{Starting}
use Rattle.step_tables.proofs.breadth_first.begin_all.Given as goal

abbrev pub invariant-loop-at : goal.invariant-loop-at
invariant-loop-at g l =
    (g.M.Machine.meaning l.machine ≡ g.M.Machine.meaning l.initial.machine)
    × (l.table.cells ≤ l.limit)
    × (l.at-end ≡ length (g.M.Machine.meaning l.initial.machine).starts)
    × Starting (g.M.Machine.meaning l.initial.machine) l.at l.table
