use Rattle.std.proofs.Common.{rules, ◌<◌, refl, ap, ◌∙◌, sym, subst}
use Rattle.least_paths.specs.Nets.{target}
use Rattle.weak_forms.proofs.Following.{followed_more}
use Rattle.weak_forms.proofs.finding.follow.Goals as goal

pub returns-clause-followed : goal.returns-clause-followed
returns-clause-followed g c =
    let met = rw (← c.found.view_is) at c.in-Ok.ensures.met in
    followed_more (g.G.Graph.net c.args.graph.now) c.args.at c.args.letter c.args.found.now _ _ c.follow.result c.in-Ok.place c.requires.followed
    c.requires.at c.requires.letter (c.follow.ensures ∙ ap (λ q. target (g.G.Graph.net c.args.graph.now) q c.args.letter) c.state-state.ensures)
    (subst (λ q. q < (g.G.Graph.net c.args.graph.now).states) (sym c.follow.ensures)
    (c.requires.closed.targets_in c.state-state.result c.args.letter (search rules) c.requires.letter)) met refl c.in-Ok-push.ensures.items refl refl
