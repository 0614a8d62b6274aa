use Rattle.std.proofs.Common.{ℕ, List, sym, ap, subst, slice_index, ◌∙◌}
use Rattle.std.specs.Prelude.{IfNone, IfSome}
use Rattle.graph_laws.specs.Walks.{go}
use Rattle.graph_laws.specs.Exploring.{KeyTable}
use Rattle.lash_model.specs.Tables.{letters}
use Rattle.least_paths.specs.Nets.{IsOrdered, int_net, found_net}
use Rattle.least_paths.specs.Arrivals.{IsLeastTo}
use Rattle.least_paths.specs.declared.walking.Trail.{Trail}
use Rattle.least_paths.proofs.StateWalks.{found_ordered}
use Rattle.weak_forms.specs.Ways.{IsLeastWay, LeadsToNone}
use Rattle.weak_forms.proofs.Arriving.{frac_net, none_torn, least_arrived}
use Rattle.weak_forms.proofs.arrivals.least_arrival.Goals as goal

pub returns-in-None-clause-none : goal.returns-in-None-clause-none
returns-in-None-clause-none c =
    let table = c.args.table.now.table in
    let none : LeadsToNone (frac_net table c.as_slice.result.now) c.args.goals.now =
    subst (λ way. IfNone way (LeadsToNone (frac_net table c.as_slice.result.now) c.args.goals.now)) c.in-None.is c.in-Ok-least_stem.ensures.none in
    none_torn table c.letters-letters.ensures.table _ c.in-Ok.found c.in-Ok.ensures.found c.in-Ok-outs_of.outs.items c.in-Ok-outs_of.ensures.outs
    c.args.goals.now c.requires.goals c.in-Ok-outs_of.ensures.inside
    (subst (λ (outs : List ℕ). LeadsToNone (frac_net table outs) c.args.goals.now) c.as_slice.ensures.value none)

pub least_path-requires-clause-ordered : goal.least_path-requires-clause-ordered
least_path-requires-clause-ordered c = subst (λ (k : KeyTable). IsOrdered (found_net k)) (sym c.new.ensures)
    (found_ordered (int_net c.args.table.now.table) _ _ c.in-Ok.ensures.found)

pub returns-in-Ok-least_path-clause-some : goal.returns-in-Ok-least_path-clause-some
returns-in-Ok-least_path-clause-some c =
    let table = c.args.table.now.table in
    let way = c.in-Some.way in
    let pair = c.in-Ok-least_path.pair in
    let least : IsLeastWay (frac_net table c.as_slice.result.now) c.args.goals.now (record { start = way.start; word = way.letters.items }) =
    subst (λ found. IfSome found (λ (x : Trail). IsLeastWay (frac_net table c.as_slice.result.now) c.args.goals.now (record { start = x.start; word = x.letters.items })))
    c.in-Some.is c.in-Ok-least_stem.ensures.some in
    least_arrived table c.letters-letters.ensures.table _ c.in-Ok.found c.in-Ok.ensures.found c.in-Ok-outs_of.outs.items c.in-Ok-outs_of.ensures.outs
    c.args.goals.now c.requires.goals c.in-Ok-outs_of.ensures.inside way.start way.letters.items (record { start = pair.start; word = pair.letters.items })
    c.run_frac-state.result
    (subst (λ (outs : List ℕ). IsLeastWay (frac_net table outs) c.args.goals.now (record { start = way.start; word = way.letters.items })) c.as_slice.ensures.value least)
    (subst (λ (k : KeyTable). IsLeastTo (found_net k) way.start (record { start = pair.start; word = pair.letters.items })) c.new.ensures c.in-Ok-least_path.ensures)
    (c.run_frac-state.ensures.value ∙ ap (go table.frac_rows (letters table) c.output_at.result) c.as_slice-3.ensures.value
    ∙ ap (λ s. go table.frac_rows (letters table) s way.letters.items)
    (c.output_at.ensures ∙ ap (λ (outs : List ℕ). slice_index outs way.start) c.as_slice-2.ensures.value))
