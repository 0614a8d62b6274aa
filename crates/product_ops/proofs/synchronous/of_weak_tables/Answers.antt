use Rattle.std.proofs.Common.{◌-◌, subst}
use Rattle.graph_laws.specs.Exploring.{Steps, IsExplored, IsHeavy, led_by}
use Rattle.graph_laws.proofs.Weighing.{heavy_at_first, heavy_at_second}
use Rattle.product_ops.specs.Pairs.{pairs}
use Rattle.product_ops.specs.FractionPairs.{outs_of, fraction_pairs}
use Rattle.product_ops.proofs.PairRuns.{machine_of, few_starts, starts_of}
use Rattle.product_ops.proofs.PairsInTwo.{proper_pairs, led_machine_of, table_in_two}
use Rattle.product_ops.proofs.synchronous.of_weak_tables.Goals as goal

pub explored-requires-clause-starts : goal.explored-requires-clause-starts
explored-requires-clause-starts g c = few_starts c.new-pairs.result c.in_ok-both.both.0 c.in_ok-both.both.1 c.args.left.now.table c.args.right.now.table
    c.args.map.now c.new-pairs.ensures c.in_ok-both.ensures.left c.in_ok-both.ensures.right c.in_ok-both.ensures.operands

pub returns-in-Err-clause-heavy : goal.returns-in-Err-clause-heavy
returns-in-Err-clause-heavy g c = λ e.
    let is = machine_of c.new-pairs.result c.in_ok-both.both.0 c.in_ok-both.both.1 c.args.left.now.table c.args.right.now.table c.args.map.now c.new-pairs.ensures
    c.in_ok-both.ensures.left c.in_ok-both.ensures.right in
    heavy_at_first (pairs c.args.left.now.table c.args.right.now.table c.args.map.now) (outs_of c.args.left.now.table c.args.right.now.table)
    (fraction_pairs c.args.left.now.table c.args.right.now.table c.args.map.now) c.args.limit
    (subst (λ (s : Steps). IsHeavy s c.args.limit) is (c.in-Err.ensures.heavy e))

pub new-pairs-requires-2-clause-whole : goal.new-pairs-requires-2-clause-whole
new-pairs-requires-2-clause-whole g c = proper_pairs c.new-pairs.result c.in_ok-both.both.0 c.in_ok-both.both.1 c.args.limit c.in-Ok.whole
    c.new-pairs.ensures c.in-Ok.ensures.explored

pub returns-in-Err-explored-clause-heavy : goal.returns-in-Err-explored-clause-heavy
returns-in-Err-explored-clause-heavy g c = λ e.
    let is = machine_of c.new-pairs.result c.in_ok-both.both.0 c.in_ok-both.both.1 c.args.left.now.table c.args.right.now.table c.args.map.now c.new-pairs.ensures
    c.in_ok-both.ensures.left c.in_ok-both.ensures.right in
    let led = led_machine_of c.new-pairs-2.result c.in_ok-both.both.0 c.in_ok-both.both.1 c.in-Ok.whole c.args.left.now.table c.args.right.now.table
    c.args.map.now c.new-pairs-2.ensures c.in_ok-both.ensures.left c.in_ok-both.ensures.right in
    heavy_at_second (pairs c.args.left.now.table c.args.right.now.table c.args.map.now) (outs_of c.args.left.now.table c.args.right.now.table)
    (fraction_pairs c.args.left.now.table c.args.right.now.table c.args.map.now) c.args.limit c.in-Ok.whole
    (subst (λ (s : Steps). IsExplored s c.args.limit c.in-Ok.whole) is c.in-Ok.ensures.explored)
    (subst (λ n. IsHeavy (led_by (outs_of c.args.left.now.table c.args.right.now.table) (fraction_pairs c.args.left.now.table c.args.right.now.table
    c.args.map.now) c.in-Ok.whole.keys) (c.args.limit - n)) c.cells.ensures
    (subst (λ (s : Steps). IsHeavy s (c.args.limit - c.cells.result)) led (c.in-Err-explored.ensures.heavy e)))

pub of_two_explored-requires-clause-starts : goal.of_two_explored-requires-clause-starts
of_two_explored-requires-clause-starts g c =
    let is = machine_of c.new-pairs.result c.in_ok-both.both.0 c.in_ok-both.both.1 c.args.left.now.table c.args.right.now.table c.args.map.now c.new-pairs.ensures
    c.in_ok-both.ensures.left c.in_ok-both.ensures.right in
    rw c.tracks.ensures (starts_of c.args.left.now.table c.args.right.now.table c.args.map.now c.args.limit c.in-Ok.whole
    (subst (λ (s : Steps). IsExplored s c.args.limit c.in-Ok.whole) is c.in-Ok.ensures.explored))

pub of_two_explored-requires-clause-proper : goal.of_two_explored-requires-clause-proper
of_two_explored-requires-clause-proper g c =
    let led = led_machine_of c.new-pairs-2.result c.in_ok-both.both.0 c.in_ok-both.both.1 c.in-Ok.whole c.args.left.now.table c.args.right.now.table
    c.args.map.now c.new-pairs-2.ensures c.in_ok-both.ensures.left c.in_ok-both.ensures.right in
    let e : IsExplored (led_by (outs_of c.args.left.now.table c.args.right.now.table) (fraction_pairs c.args.left.now.table c.args.right.now.table
    c.args.map.now) c.in-Ok.whole.keys) (c.args.limit - c.cells.result) c.in-Ok-explored.fraction = subst
    (λ (s : Steps). IsExplored s (c.args.limit - c.cells.result) c.in-Ok-explored.fraction) led c.in-Ok-explored.ensures.explored in
    e.proper

pub returns-in-Ok-of_two_explored-clause-mixed_pairs : goal.returns-in-Ok-of_two_explored-clause-mixed_pairs
returns-in-Ok-of_two_explored-clause-mixed_pairs g c =
    let is = machine_of c.new-pairs.result c.in_ok-both.both.0 c.in_ok-both.both.1 c.args.left.now.table c.args.right.now.table c.args.map.now c.new-pairs.ensures
    c.in_ok-both.ensures.left c.in_ok-both.ensures.right in
    let led = led_machine_of c.new-pairs-2.result c.in_ok-both.both.0 c.in_ok-both.both.1 c.in-Ok.whole c.args.left.now.table c.args.right.now.table
    c.args.map.now c.new-pairs-2.ensures c.in_ok-both.ensures.left c.in_ok-both.ensures.right in
    let e : IsExplored (led_by (outs_of c.args.left.now.table c.args.right.now.table) (fraction_pairs c.args.left.now.table c.args.right.now.table
    c.args.map.now) c.in-Ok.whole.keys) (c.args.limit - c.cells.result) c.in-Ok-explored.fraction = subst
    (λ (s : Steps). IsExplored s (c.args.limit - c.cells.result) c.in-Ok-explored.fraction) led c.in-Ok-explored.ensures.explored in
    table_in_two c.args.op c.args.left.now.table c.args.right.now.table c.args.map.now c.args.limit c.base.result c.tracks.result c.in-Ok.whole
    c.in-Ok-explored.fraction c.in-Ok-of_two_explored.made
    (subst (λ (s : Steps). IsExplored s c.args.limit c.in-Ok.whole) is c.in-Ok.ensures.explored)
    (subst (λ n. IsExplored (led_by (outs_of c.args.left.now.table c.args.right.now.table) (fraction_pairs c.args.left.now.table c.args.right.now.table
    c.args.map.now) c.in-Ok.whole.keys) (c.args.limit - n) c.in-Ok-explored.fraction) c.cells.ensures e)
    c.in-Ok-of_two_explored.ensures.laid
