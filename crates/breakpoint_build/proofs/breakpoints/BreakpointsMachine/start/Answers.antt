use Rattle.std.proofs.Common.{◌≡◌, ◌∙◌, map, IsTrue, subst}
use Rattle.std.proofs.lemmas.Result.{on_ok_weaker}
use Rattle.graph_laws.specs.Exploring.{list_at}
use Rattle.lash_model.specs.Tables.{ints, fracs}
use Rattle.breakpoint_laws.specs.Breakpoints.{entry_key, is_key}
use Rattle.breakpoint_build.specs.BreakpointMachines.{Breaking}
use Rattle.breakpoint_build.proofs.KeyLists.{set_at, entries_few, entry_written, entry_is_key}
use Rattle.breakpoint_build.proofs.breakpoints.BreakpointsMachine.start.Goals as goal

pub write_entries-requires-clause-set : goal.write_entries-requires-clause-set
write_entries-requires-clause-set g c = set_at (ints c.self.inside.table.now.table) c.self.inside.sets.now.keys c.args.at c.key.result.now c.self.invariant.proper c.key.ensures

pub begin_key-requires : goal.begin_key-requires
begin_key-requires g c = entries_few c.self.inside.table.now.table c.key.result.now c.as_slice.result.now c.self.invariant.table_in (c.as_slice.ensures ∙ c.in-Ok.ensures)

pub returns-clause-key : goal.returns-clause-key
returns-clause-key g c = on_ok_weaker c.begin_key.result (λ e. subst (λ (v : Breaking). c.begin_key.new.into.items ≡ list_at (map (entry_key v.table) v.sets.keys) c.args.at) c.self.view_is
    (entry_written c.self.inside.table.now.table c.self.inside.sets.now.keys c.args.at c.key.result.now c.as_slice.result.now c.begin_key.new.into.items c.key.ensures (c.as_slice.ensures ∙ c.in-Ok.ensures) e)) c.begin_key.ensures

pub returns-clause-proper : goal.returns-clause-proper
returns-clause-proper g c = on_ok_weaker c.begin_key.result (λ e. subst (λ (v : Breaking). IsTrue (is_key (fracs v.table) c.begin_key.new.into.items)) c.self.view_is
    (entry_is_key c.self.inside.table.now.table c.key.result.now c.as_slice.result.now c.begin_key.new.into.items (c.as_slice.ensures ∙ c.in-Ok.ensures) e)) c.begin_key.ensures
