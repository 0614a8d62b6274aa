use Rattle.std.proofs.Common.{◌≡◌, ◌≤◌, ◌-◌, length}
use Rattle.weak_forms.specs.Finding.{HavePlaces, AreFollowed}
use Rattle.weak_forms.proofs.finding.follow_all.Given as goal

abbrev pub invariant-loop-at : goal.invariant-loop-at
invariant-loop-at g l =
    (l.at ≤ length l.found.order)
    × (length l.places.items ≡ (g.G.Graph.net l.graph).states)
    × HavePlaces l.found.order l.places.items
    × AreFollowed (g.G.Graph.net l.graph) l.at 0 l.found

abbrev pub decreases-loop-at : goal.decreases-loop-at
decreases-loop-at g l = (g.G.Graph.net l.graph).states - l.at
