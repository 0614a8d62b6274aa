use Rattle.std.proofs.Common.{subst}
use Rattle.graph_laws.specs.Exploring.{Steps, IsExplored}
use Rattle.product_ops.proofs.PairRuns.{machine_of, few_starts, starts_of, pair_table}
use Rattle.product_ops.specs.Pairs.{pairs}
use Rattle.product_ops.proofs.synchronous.of_diagrams.Goals as goal

pub explored-requires-clause-starts : goal.explored-requires-clause-starts
explored-requires-clause-starts g c = few_starts c.new-pairs.result c.in_ok-both.both.0 c.in_ok-both.both.1 c.args.left.now.table c.args.right.now.table
    c.args.map.now c.new-pairs.ensures c.in_ok-both.ensures.left c.in_ok-both.ensures.right c.in_ok-both.ensures.operands

pub of_explored-requires-clause-starts : goal.of_explored-requires-clause-starts
of_explored-requires-clause-starts g c =
    let is = machine_of c.new-pairs.result c.in_ok-both.both.0 c.in_ok-both.both.1 c.args.left.now.table c.args.right.now.table c.args.map.now c.new-pairs.ensures
    c.in_ok-both.ensures.left c.in_ok-both.ensures.right in
    rw c.tracks.ensures (starts_of c.args.left.now.table c.args.right.now.table c.args.map.now c.args.limit c.in_ok-found.found
    (subst (λ (s : Steps). IsExplored s c.args.limit c.in_ok-found.found) is c.in_ok-found.ensures.explored))

pub of_explored-requires-clause-proper : goal.of_explored-requires-clause-proper
of_explored-requires-clause-proper g c =
    let is = machine_of c.new-pairs.result c.in_ok-both.both.0 c.in_ok-both.both.1 c.args.left.now.table c.args.right.now.table c.args.map.now c.new-pairs.ensures
    c.in_ok-both.ensures.left c.in_ok-both.ensures.right in
    let e : IsExplored (pairs c.args.left.now.table c.args.right.now.table c.args.map.now) c.args.limit c.in_ok-found.found = subst
    (λ (s : Steps). IsExplored s c.args.limit c.in_ok-found.found) is c.in_ok-found.ensures.explored in
    e.proper

pub returns-in-Ok-clause-pairs : goal.returns-in-Ok-clause-pairs
returns-in-Ok-clause-pairs g c =
    let is = machine_of c.new-pairs.result c.in_ok-both.both.0 c.in_ok-both.both.1 c.args.left.now.table c.args.right.now.table c.args.map.now c.new-pairs.ensures
    c.in_ok-both.ensures.left c.in_ok-both.ensures.right in
    pair_table c.args.op c.args.left.now.table c.args.right.now.table c.args.map.now c.args.limit c.base.result c.tracks.result c.in_ok-found.found
    c.in-Ok.made
    (subst (λ (s : Steps). IsExplored s c.args.limit c.in_ok-found.found) is c.in_ok-found.ensures.explored) c.in-Ok.ensures.laid
