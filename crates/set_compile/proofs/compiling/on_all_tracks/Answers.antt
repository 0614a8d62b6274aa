use Rattle.std.proofs.Common.{◌≡◌, ◌<◌, ℕ, length, sym, ap, ◌∙◌}
use mathlib.Core.Logic.{inl, inr}
use Rattle.step_tables.specs.Kept.{Kept}
use Rattle.formula_core.specs.Counts.{free_places}
use Rattle.formula_core.specs.Shape.{formula_of}
use Rattle.set_compile.proofs.Spreading.{full_stands}
use Rattle.set_compile.proofs.Widening.{fewer_free, refused_later}
use Rattle.set_compile.proofs.compiling.on_all_tracks.Goals as goal

pub returns-then-tracks-places-clause-shape : goal.returns-then-tracks-places-clause-shape
returns-then-tracks-places-clause-shape c =
    let tracks = sym (c.tracks.ensures ∙ ap (λ (k : Kept). k.table.tracks) c.table.ensures.value) ∙ c.if-tracks-places.true in
    let s = c.in-Ok.ensures.shape in
    record { canonical = s.canonical; kind = s.kind; base_is = s.base_is; tracks_are = tracks }

pub returns-then-tracks-places-clause-made : goal.returns-then-tracks-places-clause-made
returns-then-tracks-places-clause-made c =
    let tracks = sym (c.tracks.ensures ∙ ap (λ (k : Kept). k.table.tracks) c.table.ensures.value) ∙ c.if-tracks-places.true in
    inl (sym c.in-Ok.ensures.shape.tracks_are ∙ tracks, c.in-Ok.ensures.made)

pub returns-then-tracks-places-clause-stands : goal.returns-then-tracks-places-clause-stands
returns-then-tracks-places-clause-stands c =
    let m : ℕ = c.args.places in
    let f = formula_of c.args.formula.now in
    let t = c.in-Ok.made.table in
    let tracks : t.tracks ≡ m = sym (c.tracks.ensures ∙ ap (λ (k : Kept). k.table.tracks) c.table.ensures.value) ∙ c.if-tracks-places.true in
    let full : length (free_places f m) ≡ m = sym c.in-Ok.ensures.shape.tracks_are ∙ tracks in
    full_stands c.depends_on_free_places.ensures.used t f m c.in-Ok.ensures.linear tracks full c.in-Ok.ensures.stands

pub returns-in-Ok-widened-clause-made : goal.returns-in-Ok-widened-clause-made
returns-in-Ok-widened-clause-made c =
    let m : ℕ = c.args.places in
    let f = formula_of c.args.formula.now in
    let t = c.in-Ok.made.table in
    let less : length (free_places f m) < m = fewer_free f m t.tracks c.in-Ok.ensures.shape.tracks_are (λ e. c.if-tracks-places.false (c.tracks.ensures ∙ ap (λ (k : Kept). k.table.tracks) c.table.ensures.value ∙ e)) in
    inr (less, c.in-Ok-widened.ensures.widened)

pub returns-clause-refused : goal.returns-clause-refused
returns-clause-refused c = λ no.
    let m : ℕ = c.args.places in
    let f = formula_of c.args.formula.now in
    let t = c.in-Ok.made.table in
    let less : length (free_places f m) < m = fewer_free f m t.tracks c.in-Ok.ensures.shape.tracks_are (λ e. c.if-tracks-places.false (c.tracks.ensures ∙ ap (λ (k : Kept). k.table.tracks) c.table.ensures.value ∙ e)) in
    refused_later c.args.build.now m f t c.in-Err-widened.error less c.in-Ok.ensures.made (c.in-Err-widened.ensures.refused no)
