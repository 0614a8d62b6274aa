use Rattle.std.proofs.Common.{arith}
use Rattle.components.specs.Walking.{layout}
use Rattle.components.proofs.Ending.{split_whole, order_whole}
use Rattle.components.proofs.search.split.Goals as goal

pub loop-root-init : goal.loop-root-init
loop-root-init c = record {
  walk = c.in_ok-walk.ensures.walk c.args.rows.now c.args.letters;
  ended = c.in_ok-walk.ensures.ended;
  seen = λ q lt. absurd (omega (arith, lt));
}

pub returns-clause-numbers : goal.returns-clause-numbers
returns-clause-numbers c =
    split_whole c.args.states c.args.rows.now c.args.letters (layout c.loop-root.walk) c.loop-root.invariant.walk c.loop-root.invariant.ended
    (λ q lt. c.loop-root.invariant.seen q (omega (arith, lt, c.loop-root-test.false)))

pub returns-clause-order : goal.returns-clause-order
returns-clause-order c = order_whole c.args.states c.args.rows.now c.args.letters
    (layout c.loop-root.walk) c.loop-root.invariant.walk c.loop-root.invariant.ended
    (λ q lt. c.loop-root.invariant.seen q (omega (arith, lt, c.loop-root-test.false)))
