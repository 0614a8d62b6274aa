use Rattle.std.proofs.Common.{◌≡◌, ◌<◌, length}
use Rattle.weak_forms.specs.Finding.{HavePlaces, AreFollowed}
use Rattle.weak_forms.proofs.finding.follow_row.Given as goal

abbrev pub invariant-loop-letter : goal.invariant-loop-letter
invariant-loop-letter g l =
    (l.at < length l.found.order)
    × (l.letter-end ≡ (g.G.Graph.net l.graph).width)
    × (length l.places.items ≡ (g.G.Graph.net l.graph).states)
    × HavePlaces l.found.order l.places.items
    × AreFollowed (g.G.Graph.net l.graph) l.at l.letter l.found
