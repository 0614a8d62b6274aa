use Rattle.std.proofs.Common.{◌≡◌, ◌<◌, ◌^◌, length}
use Rattle.graph_laws.specs.Walks.{go, copies}
use Rattle.step_tables.proofs.table.Table.run_turns.Given as goal

abbrev pub invariant-loop-turn : goal.invariant-loop-turn
invariant-loop-turn g l =
    (l.at < length l.self.table.colours)
    × (l.at ≡ go l.self.table.frac_rows (l.self.table.base ^ l.self.table.tracks) l.initial.at (copies l._turn l.cycle))
