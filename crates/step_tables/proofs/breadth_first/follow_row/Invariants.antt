use Rattle.std.proofs.Common.{◌≡◌, ◌≤◌, ◌<◌, length}
use Rattle.step_tables.specs.Gathering.{Following}
use Rattle.step_tables.proofs.breadth_first.follow_row.Given as goal

abbrev pub invariant-loop-letter : goal.invariant-loop-letter
invariant-loop-letter g l =
    (g.M.Machine.meaning l.machine ≡ g.M.Machine.meaning l.initial.machine)
    × (l.table.cells ≤ l.limit)
    × (l.at < length l.table.keys)
    × (l.letter-end ≡ (g.M.Machine.meaning l.initial.machine).width)
    × Following (g.M.Machine.meaning l.initial.machine) l.at l.letter l.table
