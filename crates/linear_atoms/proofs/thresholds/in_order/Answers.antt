use Rattle.std.proofs.Common.{rules, ◌≡◌, ap, subst, sym, ◌∙◌}
use Rattle.linear_atoms.proofs.Sorting.{rising_from_sorted}
use Rattle.linear_atoms.proofs.thresholds.in_order.Goals as goal

pub returns-in-Ok-sort-clause-rising : goal.returns-in-Ok-sort-clause-rising
returns-in-Ok-sort-clause-rising c = rising_from_sorted c.args.found.now.keys c.sort.new.self.items (search rules) c.as_slice.ensures.unique c.in-Ok-sort.ensures.sorted
