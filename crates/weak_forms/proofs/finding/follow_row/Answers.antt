use Rattle.std.proofs.Common.{◌≡◌, arith, subst}
use Rattle.weak_forms.specs.Finding.{AreFollowed}
use Rattle.weak_forms.proofs.Following.{followed_row}
use Rattle.weak_forms.proofs.finding.follow_row.Goals as goal

pub returns-clause-followed : goal.returns-clause-followed
returns-clause-followed g c =
    let kept = c.loop-letter.invariant in
    let over : c.loop-letter.letter ≡ (g.G.Graph.net c.args.graph.now).width = omega (arith, kept.1, c.loop-letter.auto.letter-end, c.loop-letter-test.false) in
    followed_row (g.G.Graph.net c.args.graph.now) c.args.at c.loop-letter.found (subst (λ n. AreFollowed (g.G.Graph.net c.args.graph.now) c.args.at n c.loop-letter.found) over kept.4) kept.0
