use Rattle.std.proofs.Common.{◌^◌, length, slice_index_or}
use Rattle.graph_laws.specs.Walks.{copies}
use Rattle.graph_laws.proofs.Joining.{go-append}
use Rattle.lash_model.specs.Acceptance.{int_state}
use Rattle.step_tables.proofs.table.Table.accepts.Goals as goal

pub returns-clause-fractions : goal.returns-clause-fractions
returns-clause-fractions g c _ =
    let t = c.args.self.now.table in
    let x = c.args.lasso.now in
    let joined =
    go-append t.frac_rows (t.base ^ t.tracks) (slice_index_or t.outs (int_state t x.sign x.whole) 0) x.stem (copies (length t.colours) x.cycle) in
    cc
