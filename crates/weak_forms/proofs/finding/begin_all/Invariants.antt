use Rattle.std.proofs.Common.{◌≡◌, length}
use Rattle.weak_forms.specs.Finding.{HavePlaces, AreBegun}
use Rattle.weak_forms.proofs.finding.begin_all.Given as goal

abbrev pub invariant-loop-at : goal.invariant-loop-at
invariant-loop-at g l =
    (l.at-end ≡ length (g.G.Graph.net l.graph).starts)
    × (length l.places.items ≡ (g.G.Graph.net l.graph).states)
    × HavePlaces l.found.order l.places.items
    × AreBegun (g.G.Graph.net l.graph) l.at l.found
