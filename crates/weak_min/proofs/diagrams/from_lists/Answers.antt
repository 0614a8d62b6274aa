use Rattle.std.proofs.Common.{◌≡◌, ap}
use Rattle.graph_laws.specs.Exploring.{IsExplored}
use Rattle.step_tables.specs.Kept.{Kept, answered, laid}
use Rattle.weak_min.specs.Quotients.{Classed, IsClassed, classing, quotient, all_cells, class_says}
use Rattle.weak_min.proofs.ClassRuns.{classing_in}
use Rattle.weak_min.proofs.Explorations.{quotient_canonical, quotient_words}
use Rattle.weak_min.proofs.diagrams.from_lists.Goals as goal

pub explored-requires : goal.explored-requires
explored-requires g c = rw (c.deref.ensures.value, c.deref-2.ensures.value, c.in-Ok-roots_of.ensures, c.letters-letters.ensures.value, c.requires.rows)
    (classing_in (record { table = c.args.table.now.table; classes = c.in-Ok.names.items })
    (record {
      table = c.letters-letters.ensures.table;
      diagram = c.requires.diagram;
      classes = rw (← c.requires.rows, ← c.requires.outs, ← c.letters-letters.ensures.value) c.in-Ok.ensures;
    }))

pub returns-in-Ok-of_explored-clause-canonical : goal.returns-in-Ok-of_explored-clause-canonical
returns-in-Ok-of_explored-clause-canonical g c =
    let x : Classed = record { table = c.args.table.now.table; classes = c.in-Ok.names.items } in
    let valid : IsClassed x = record {
      table = c.letters-letters.ensures.table;
      diagram = c.requires.diagram;
      classes = rw (← c.requires.rows, ← c.requires.outs, ← c.letters-letters.ensures.value) c.in-Ok.ensures;
    } in
    let explored : IsExplored (quotient (classing x)) (all_cells (classing x)) c.in-Ok-explored.found =
    rw (← c.requires.rows, ← c.letters-letters.ensures.value, ← c.in-Ok-roots_of.ensures, ← c.deref.ensures.value, ← c.deref-2.ensures.value) c.in-Ok-explored.ensures in
    let is : c.in-Ok-of_explored.made.table ≡ laid x.table.base x.table.tracks c.in-Ok-explored.found (answered (class_says x.table.outs) c.in-Ok-explored.found.keys) =
    rw (← c.base.ensures, ← c.tracks.ensures, ← c.requires.outs) (ap (λ (v : Kept). v.table) c.in-Ok-of_explored.ensures.laid) in
    quotient_canonical x c.in-Ok-explored.found c.in-Ok-of_explored.made.table valid explored c.in-Ok-of_explored.ensures.table is

pub returns-in-Ok-of_explored-clause-words : goal.returns-in-Ok-of_explored-clause-words
returns-in-Ok-of_explored-clause-words g c =
    let x : Classed = record { table = c.args.table.now.table; classes = c.in-Ok.names.items } in
    let valid : IsClassed x = record {
      table = c.letters-letters.ensures.table;
      diagram = c.requires.diagram;
      classes = rw (← c.requires.rows, ← c.requires.outs, ← c.letters-letters.ensures.value) c.in-Ok.ensures;
    } in
    let explored : IsExplored (quotient (classing x)) (all_cells (classing x)) c.in-Ok-explored.found =
    rw (← c.requires.rows, ← c.letters-letters.ensures.value, ← c.in-Ok-roots_of.ensures, ← c.deref.ensures.value, ← c.deref-2.ensures.value) c.in-Ok-explored.ensures in
    let is : c.in-Ok-of_explored.made.table ≡ laid x.table.base x.table.tracks c.in-Ok-explored.found (answered (class_says x.table.outs) c.in-Ok-explored.found.keys) =
    rw (← c.base.ensures, ← c.tracks.ensures, ← c.requires.outs) (ap (λ (v : Kept). v.table) c.in-Ok-of_explored.ensures.laid) in
    quotient_words x c.in-Ok-explored.found c.in-Ok-of_explored.made.table valid explored is
