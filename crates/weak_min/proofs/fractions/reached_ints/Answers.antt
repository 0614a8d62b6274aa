use Rattle.weak_min.proofs.FractionTables.{int_classing_in}
use Rattle.weak_min.proofs.fractions.reached_ints.Goals as goal

pub explored-requires : goal.explored-requires
explored-requires g c = rw (c.deref-2.ensures.value, c.deref-3.ensures.value, c.in-Ok-roots_of.ensures, c.letters-letters.ensures.value, c.requires.rows)
    (int_classing_in c.args.table.now.table c.args.fraction_classes.now c.in-Ok-classes.names.items c.letters-letters.ensures.table
    (rw (← c.requires.rows, ← c.in-Ok.ensures, ← c.deref.ensures.value, ← c.letters-letters.ensures.value) c.in-Ok-classes.ensures))
