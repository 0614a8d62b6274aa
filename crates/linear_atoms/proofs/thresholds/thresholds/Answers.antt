use Rattle.std.proofs.Common.{rules, arith, ◌≡◌, ◌≤◌, length}
use Rattle.std.proofs.lemmas.List.Sorted.{All-permutation, length_permutation}
use Rattle.linear_atoms.specs.Closing.{IsSmall}
use Rattle.linear_atoms.proofs.Sorting.{thresholds_in_order}
use Rattle.linear_atoms.proofs.thresholds.thresholds.Goals as goal

pub returns-in-Ok-in_order-clause-thresholds : goal.returns-in-Ok-in_order-clause-thresholds
returns-in-Ok-in_order-clause-thresholds c = thresholds_in_order c.args.base c.args.totals.now c.args.seeds.now c.close.new.found.keys c.in-Ok-in_order.rising.items c.in-Ok.ensures.closed c.in-Ok-in_order.ensures.same c.in-Ok-in_order.ensures.rising

pub returns-in-Ok-in_order-clause-small : goal.returns-in-Ok-in_order-clause-small
returns-in-Ok-in_order-clause-small c = All-permutation IsSmall c.close.new.found.keys c.in-Ok-in_order.rising.items c.in-Ok-in_order.ensures.same c.in-Ok.ensures.small

pub returns-in-Ok-in_order-clause-within : goal.returns-in-Ok-in_order-clause-within
returns-in-Ok-in_order-clause-within c =
    let same : length c.in-Ok-in_order.rising.items ≡ length c.close.new.found.keys = length_permutation _ _ c.in-Ok-in_order.ensures.same in
    let few : length c.close.new.found.keys ≤ c.args.room = c.in-Ok.ensures.within in
    let bound : length c.in-Ok-in_order.rising.items ≤ c.args.room = omega arith in
    bound
