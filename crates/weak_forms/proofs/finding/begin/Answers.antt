use Rattle.std.proofs.Common.{◌<◌, refl, sym, subst}
use Rattle.weak_forms.proofs.Following.{begun_more}
use Rattle.weak_forms.proofs.finding.begin.Goals as goal

pub returns-clause-begun : goal.returns-clause-begun
returns-clause-begun g c =
    let met = rw (← c.found.view_is) at c.in-Ok.ensures.met in
    begun_more (g.G.Graph.net c.args.graph.now) c.args.at c.args.found.now _ _ c.begin.result c.in-Ok.place c.requires.begun c.requires.at c.begin.ensures
    (subst (λ q. q < (g.G.Graph.net c.args.graph.now).states) (sym c.begin.ensures) (c.requires.closed.starts_in c.args.at c.requires.at)) met refl c.in-Ok-push.ensures.items refl refl
