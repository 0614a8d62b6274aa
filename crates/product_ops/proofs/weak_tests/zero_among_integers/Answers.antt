use Rattle.std.proofs.Common.{rules}
use Rattle.product_ops.proofs.weak_tests.zero_among_integers.Goals as goal

pub restrict_to_ints-requires-clause-weak : goal.restrict_to_ints-requires-clause-weak
restrict_to_ints-requires-clause-weak g c = c.is_weak.ensures.weak (search rules)
