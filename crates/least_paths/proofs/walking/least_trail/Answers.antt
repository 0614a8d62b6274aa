-- A state that is no start has its parent before it, and the least path to it is the parent's and the first letter.
use Rattle.std.proofs.Common.{List, ℕ, arith, sym, subst, slice_index}
use Rattle.least_paths.specs.Arrivals.{IsNoStart, IsLeastTo}
use Rattle.least_paths.proofs.Marked.{parent_of}
use Rattle.least_paths.proofs.Walked.{IsWalking, walk_more, walk_ended}
use Rattle.least_paths.proofs.walking.least_trail.Goals as goal

pub returns-in-Some : goal.returns-in-Some
returns-in-Some g c =
    let net = g.G.Graph.net c.args.graph.now in
    subst (λ (w : List ℕ). IsLeastTo net c.args.state (record { start = c.in-Some.start; word = w })) (sym c.reverse.ensures.items)
    (walk_ended net c.requires.ordered c.args.state c.loop-start.at c.in-Some.start c.loop-start.letters.items c.in-Some.ensures.some c.loop-start.invariant)

pub first_letter-requires-clause-from : goal.first_letter-requires-clause-from
first_letter-requires-clause-from g c =
    let net = g.G.Graph.net c.args.graph.now in
    let no_start : IsNoStart net c.loop-start.at = c.in_default.ensures.none in
    omega (
      arith,
      (parent_of net c.requires.ordered c.args.parents.now c.requires.parents c.loop-start.at c.loop-start.invariant.inside no_start).earlier,
      c.loop-start.invariant.inside,
    )

pub first_letter-requires-clause-letter : goal.first_letter-requires-clause-letter
first_letter-requires-clause-letter g c =
    let net = g.G.Graph.net c.args.graph.now in
    let no_start : IsNoStart net c.loop-start.at = c.in_default.ensures.none in
    (parent_of net c.requires.ordered c.args.parents.now c.requires.parents c.loop-start.at c.loop-start.invariant.inside no_start).step

pub loop-start-smaller : goal.loop-start-smaller
loop-start-smaller g c =
    let net = g.G.Graph.net c.args.graph.now in
    let no_start : IsNoStart net c.loop-start.at = c.in_default.ensures.none in
    (parent_of net c.requires.ordered c.args.parents.now c.requires.parents c.loop-start.at c.loop-start.invariant.inside no_start).earlier

pub loop-start-preserved : goal.loop-start-preserved
loop-start-preserved g c =
    let net = g.G.Graph.net c.args.graph.now in
    let no_start : IsNoStart net c.loop-start.at = c.in_default.ensures.none in
    subst (λ (w : List ℕ). IsWalking net c.args.state (slice_index c.args.parents.now c.loop-start.at) w) (sym c.in-Ok.ensures.items)
    (walk_more net c.requires.ordered c.args.parents.now c.requires.parents c.args.state c.loop-start.at c.first_letter.result c.loop-start.letters.items
    no_start c.first_letter.ensures c.loop-start.invariant)
