use Rattle.weak_min.proofs.FractionTables.{fraction_classing_in}
use Rattle.weak_min.proofs.fractions.explored_fractions.Goals as goal

pub explored-requires : goal.explored-requires
explored-requires g c = rw (c.deref.ensures.value, c.in-Ok.ensures, c.letters.ensures.value, c.requires.rows)
    (fraction_classing_in c.args.table.now.table c.args.fraction_classes.now c.args.found.now c.letters.ensures.table c.requires.fractions c.requires.classes c.requires.least c.requires.found)
