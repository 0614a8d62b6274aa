use Rattle.std.proofs.Common.{arith}
use Rattle.weak_min.proofs.canon.canonical.Goals as goal

pub canonical_fractions-made-requires-clause-weak : goal.canonical_fractions-made-requires-clause-weak
canonical_fractions-made-requires-clause-weak g c = c.requires (grind (arith, c.fracs.ensures, c.if-fracs-eq0.false))
