use Rattle.std.proofs.Common.{ℕ, List, length, subst}
use Rattle.components.specs.Partings.{MarksLoops}
use Rattle.components.proofs.Ending.{steps_in}
use Rattle.components.proofs.Looping.{parts_whole}
use Rattle.components.proofs.parts.parts_of.Goals as goal

pub returns : goal.returns
returns c =
    let marks = subst (λ (xs : List ℕ). MarksLoops c.args.rows.now c.args.letters xs c.in_ok-count.count (length xs) c.in_ok-looping.looping.items)
    c.as_slice.ensures.value c.in_ok-looping.ensures in
    parts_whole c.args.states c.args.rows.now c.args.letters c.in_ok-count.count c.in_ok-count.numbers.items c.in_ok-looping.looping.items
    c.in_ok-count.order.items (steps_in c.args.states c.args.rows.now c.args.letters c.requires.rows c.requires.targets) c.in_ok-count.ensures.numbers
    (subst (λ n. MarksLoops c.args.rows.now c.args.letters c.in_ok-count.numbers.items c.in_ok-count.count n c.in_ok-looping.looping.items)
    c.in_ok-count.ensures.numbers.numbers.count marks) c.in_ok-count.ensures.order
