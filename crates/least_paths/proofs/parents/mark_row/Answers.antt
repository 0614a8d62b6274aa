use Rattle.std.proofs.Common.{rules, ◌+◌, slice_set, sym, subst}
use Rattle.least_paths.specs.Arrivals.{AreParents}
use Rattle.least_paths.proofs.Marked.{marked_more}
use Rattle.least_paths.proofs.parents.mark_row.Goals as goal

pub loop-letter-preserved : goal.loop-letter-preserved
loop-letter-preserved g c =
    let net = g.G.Graph.net c.args.graph.now in
    subst (λ to. AreParents net (c.args.state + 1) (c.loop-letter.letter + 1) (slice_set c.loop-letter.parents.items to c.args.state)) (sym c.follow.ensures)
    (marked_more net c.requires.closed c.args.state c.loop-letter.letter c.loop-letter.parents.items c.requires.state (search rules) c.loop-letter.invariant)
