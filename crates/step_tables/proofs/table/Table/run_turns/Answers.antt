use Rattle.std.proofs.Common.{◌^◌}
use Rattle.graph_laws.proofs.Turns.{go-copies_more}
use Rattle.step_tables.proofs.table.Table.run_turns.Goals as goal

pub loop-turn-preserved : goal.loop-turn-preserved
loop-turn-preserved g c =
    let t = c.args.self.now.table in
    let more = go-copies_more t.frac_rows (t.base ^ t.tracks) c.args.state c.loop-turn._turn c.args.cycle.now in
    (c.run_frac-at.ensures.below, cc)
