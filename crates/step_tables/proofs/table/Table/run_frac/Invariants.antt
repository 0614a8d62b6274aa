use Rattle.std.proofs.Common.{◌≡◌, ◌<◌, ◌^◌, length, drop}
use Rattle.graph_laws.specs.Walks.{go}
use Rattle.step_tables.proofs.table.Table.run_frac.Given as goal

abbrev pub invariant-loop-letter : goal.invariant-loop-letter
invariant-loop-letter g l =
    (l.at < length l.self.table.colours)
    × (go l.self.table.frac_rows (l.self.table.base ^ l.self.table.tracks) l.initial.at l.word ≡ go l.self.table.frac_rows (l.self.table.base ^ l.self.table.tracks) l.at (drop l.letter-index l.word))
