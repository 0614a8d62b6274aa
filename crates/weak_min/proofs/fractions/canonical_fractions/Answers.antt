use Rattle.std.proofs.Common.{◌≡◌, ap}
use Rattle.step_tables.specs.Kept.{Kept}
use Rattle.weak_min.specs.FractionClasses.{AreReachedInts, AreReachedFractions}
use Rattle.weak_min.proofs.FractionTables.{laid, int_starts, cells_within, colours_proper, laid_canonical, laid_accepts}
use Rattle.weak_min.proofs.fractions.canonical_fractions.Goals as goal

pub of_two_explored-requires-clause-few : goal.of_two_explored-requires-clause-few
of_two_explored-requires-clause-few g c = rw (c.base.ensures, c.tracks.ensures) c.in-Ok.ensures.table.shape.few_letters

pub of_two_explored-requires-clause-starts : goal.of_two_explored-requires-clause-starts
of_two_explored-requires-clause-starts g c = rw c.tracks.ensures
    (int_starts c.args.table.now.table c.deref.result.now c.in-Ok-explored_ints.whole c.in-Ok.ensures.table c.in-Ok-explored_ints.ensures)

pub of_two_explored-requires-clause-cells : goal.of_two_explored-requires-clause-cells
of_two_explored-requires-clause-cells g c =
    let ints : AreReachedInts c.args.table.now.table c.in-Ok.part.classes.items c.in-Ok-explored_ints.whole = rw (← c.deref.ensures.value) c.in-Ok-explored_ints.ensures in
    let fractions : AreReachedFractions c.args.table.now.table c.in-Ok.part.classes.items c.in-Ok-explored_ints.whole c.in-Ok-explored_fractions.fractions =
    rw (← c.deref-3.ensures.value) c.in-Ok-explored_fractions.ensures in
    cells_within c.args.table.now.table c.in-Ok.part.rows.items c.in-Ok.part.colours.items c.in-Ok.part.classes.items c.in-Ok-explored_ints.whole c.in-Ok-explored_fractions.fractions
    (record { some = c.requires.fractions; weak = c.requires.weak; ranked = c.in-Ok.ensures; reached_ints = ints; reached_fractions = fractions })

pub of_two_explored-requires-clause-proper : goal.of_two_explored-requires-clause-proper
of_two_explored-requires-clause-proper g c =
    let ints : AreReachedInts c.args.table.now.table c.in-Ok.part.classes.items c.in-Ok-explored_ints.whole = rw (← c.deref.ensures.value) c.in-Ok-explored_ints.ensures in
    let fractions : AreReachedFractions c.args.table.now.table c.in-Ok.part.classes.items c.in-Ok-explored_ints.whole c.in-Ok-explored_fractions.fractions =
    rw (← c.deref-3.ensures.value) c.in-Ok-explored_fractions.ensures in
    rw (c.deref-4.ensures.value)
    (colours_proper c.args.table.now.table c.in-Ok.part.rows.items c.in-Ok.part.colours.items c.in-Ok.part.classes.items c.in-Ok-explored_ints.whole c.in-Ok-explored_fractions.fractions
    (record { some = c.requires.fractions; weak = c.requires.weak; ranked = c.in-Ok.ensures; reached_ints = ints; reached_fractions = fractions }))

pub returns-in-Ok-of_two_explored-clause-canonical : goal.returns-in-Ok-of_two_explored-clause-canonical
returns-in-Ok-of_two_explored-clause-canonical g c =
    let ints : AreReachedInts c.args.table.now.table c.in-Ok.part.classes.items c.in-Ok-explored_ints.whole = rw (← c.deref.ensures.value) c.in-Ok-explored_ints.ensures in
    let fractions : AreReachedFractions c.args.table.now.table c.in-Ok.part.classes.items c.in-Ok-explored_ints.whole c.in-Ok-explored_fractions.fractions =
    rw (← c.deref-3.ensures.value) c.in-Ok-explored_fractions.ensures in
    let is : c.in-Ok-of_two_explored.made.table ≡ laid c.args.table.now.table c.in-Ok.part.colours.items c.in-Ok-explored_ints.whole c.in-Ok-explored_fractions.fractions =
    rw (← c.base.ensures, ← c.tracks.ensures, ← c.deref-4.ensures.value) (ap (λ (v : Kept). v.table) c.in-Ok-of_two_explored.ensures.laid) in
    rw is
    (laid_canonical c.args.table.now.table c.in-Ok.part.rows.items c.in-Ok.part.colours.items c.in-Ok.part.classes.items c.in-Ok-explored_ints.whole c.in-Ok-explored_fractions.fractions
    (record { some = c.requires.fractions; weak = c.requires.weak; ranked = c.in-Ok.ensures; reached_ints = ints; reached_fractions = fractions })
    (rw (← is) c.in-Ok-of_two_explored.ensures.table))

pub returns-in-Ok-of_two_explored-clause-lassos : goal.returns-in-Ok-of_two_explored-clause-lassos
returns-in-Ok-of_two_explored-clause-lassos g c =
    let ints : AreReachedInts c.args.table.now.table c.in-Ok.part.classes.items c.in-Ok-explored_ints.whole = rw (← c.deref.ensures.value) c.in-Ok-explored_ints.ensures in
    let fractions : AreReachedFractions c.args.table.now.table c.in-Ok.part.classes.items c.in-Ok-explored_ints.whole c.in-Ok-explored_fractions.fractions =
    rw (← c.deref-3.ensures.value) c.in-Ok-explored_fractions.ensures in
    let is : c.in-Ok-of_two_explored.made.table ≡ laid c.args.table.now.table c.in-Ok.part.colours.items c.in-Ok-explored_ints.whole c.in-Ok-explored_fractions.fractions =
    rw (← c.base.ensures, ← c.tracks.ensures, ← c.deref-4.ensures.value) (ap (λ (v : Kept). v.table) c.in-Ok-of_two_explored.ensures.laid) in
    rw is
    (laid_accepts c.args.table.now.table c.in-Ok.part.rows.items c.in-Ok.part.colours.items c.in-Ok.part.classes.items c.in-Ok-explored_ints.whole c.in-Ok-explored_fractions.fractions
    (record { some = c.requires.fractions; weak = c.requires.weak; ranked = c.in-Ok.ensures; reached_ints = ints; reached_fractions = fractions })
    (rw (← is) c.in-Ok-of_two_explored.ensures.table))
