use Rattle.std.proofs.Common.{arith}
use Rattle.weak_min.proofs.FractionTables.{some_letters}
use Rattle.weak_min.proofs.fractions.colours_by_rank.Goals as goal

pub rank_colours-requires-clause-letters : goal.rank_colours-requires-clause-letters
rank_colours-requires-clause-letters g c = omega (arith, c.letters-letters.ensures.value, some_letters c.args.table.now.table c.letters-letters.ensures.table)

pub rank_colours-requires-clause-weak : goal.rank_colours-requires-clause-weak
rank_colours-requires-clause-weak g c = rw (c.letters-letters.ensures.value, c.requires.rows, c.deref.ensures.value, c.in-Ok.ensures) c.requires.weak
