use Rattle.std.proofs.Common.{sym, subst}
use Rattle.graph_laws.specs.Exploring.{KeyTable}
use Rattle.least_paths.specs.Nets.{IsOrdered, found_net}
use Rattle.least_paths.specs.Arrivals.{IsLeastTo}
use Rattle.least_paths.proofs.StateWalks.{found_ordered}
use Rattle.weak_forms.proofs.FirstGoals.{no_way, way}
use Rattle.weak_forms.proofs.ways.least_way.Goals as goal

pub returns-in-None-clause-none : goal.returns-in-None-clause-none
returns-in-None-clause-none g c = no_way (g.G.Graph.net c.args.graph.now) c.args.goals.now _ c.in-Ok.found c.in-Ok.ensures.found c.in-None.ensures.none

pub least_path-requires-clause-ordered : goal.least_path-requires-clause-ordered
least_path-requires-clause-ordered g c = subst (λ (k : KeyTable). IsOrdered (found_net k)) (sym c.new.ensures)
    (found_ordered (g.G.Graph.net c.args.graph.now) _ _ c.in-Ok.ensures.found)

pub returns-in-Ok-least_path-clause-some : goal.returns-in-Ok-least_path-clause-some
returns-in-Ok-least_path-clause-some g c =
    let trail = c.in-Ok-least_path.trail in
    way (g.G.Graph.net c.args.graph.now) c.args.goals.now _ c.in-Ok.found c.in-Some.at (record { start = trail.start; word = trail.letters.items })
    c.in-Ok.ensures.found c.in-Some.ensures.some
    (subst (λ (k : KeyTable). IsLeastTo (found_net k) c.in-Some.at (record { start = trail.start; word = trail.letters.items })) c.new.ensures
    c.in-Ok-least_path.ensures)
