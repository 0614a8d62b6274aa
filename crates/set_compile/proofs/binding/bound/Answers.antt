use Rattle.std.proofs.Common.{◌≡◌, ◌+◌, ℕ, length, true, arith, refl, sym, ap, ◌∙◌, subst}
use Rattle.lash_model.specs.Tables.{Table}
use Rattle.step_tables.specs.Kept.{Kept}
use Rattle.formula_core.specs.Counts.{uses, free_places}
use Rattle.formula_core.specs.Shape.{formula_of}
use Rattle.formula_core.specs.Variables.{sort_of}
use Rattle.set_compile.specs.Kinds.{IsShaped}
use Rattle.set_compile.specs.Steps.{IsForgotten, IsForgettingRefused}
use Rattle.set_compile.proofs.Bodies.{unbound_stands}
use Rattle.set_compile.proofs.Forgetting.{forgotten_stands}
use Rattle.set_compile.proofs.NodeSteps.{body_shape, bound_used, bound_unused, unbound_made, bound_made, bound_refused}
use Rattle.set_compile.proofs.Spreading.{at_most_all}
use Rattle.set_compile.proofs.binding.bound.Goals as goal

pub overflow_cast-track : goal.overflow_cast-track
overflow_cast-track c = omega (arith, c.len-track.ensures, ap length c.in-Ok.ensures.places, at_most_all (λ p. uses p (formula_of c.args.inner.now)) 0 c.args.place, c.ranges.place.fits)

-- ---- a variable that is not used
pub returns-then-tracks-track-clause-made : goal.returns-then-tracks-track-clause-made
returns-then-tracks-track-clause-made c =
    let f = formula_of c.args.inner.now in
    let u : Table = c.args.body.table in
    let count : c.len-track.result ≡ length (free_places f c.args.place) = omega (arith, c.len-track.ensures, ap length c.in-Ok.ensures.places) in
    let same : u.tracks ≡ length (free_places f c.args.place) = sym (c.tracks.ensures ∙ ap (λ (k : Kept). k.table.tracks) c.table.ensures.value) ∙ c.if-tracks-track.true ∙ count in
    unbound_made c.args.build.now (sort_of c.args.sort) c.args.place f u c.requires.made (bound_unused c.args.build.now c.args.place f u c.requires.made same)

pub returns-then-tracks-track-clause-stands : goal.returns-then-tracks-track-clause-stands
returns-then-tracks-track-clause-stands c =
    let f = formula_of c.args.inner.now in
    let u : Table = c.args.body.table in
    let count : c.len-track.result ≡ length (free_places f c.args.place) = omega (arith, c.len-track.ensures, ap length c.in-Ok.ensures.places) in
    let same : u.tracks ≡ length (free_places f c.args.place) = sym (c.tracks.ensures ∙ ap (λ (k : Kept). k.table.tracks) c.table.ensures.value) ∙ c.if-tracks-track.true ∙ count in
    unbound_stands c.depends_on_free_places.ensures.used (sort_of c.args.sort) u f c.args.place c.in-Ok.ensures.linear (bound_unused c.args.build.now c.args.place f u c.requires.made same) c.requires.stands

-- ---- a variable that is used
pub without_track-requires-clause-shape : goal.without_track-requires-clause-shape
without_track-requires-clause-shape c =
    let f = formula_of c.args.inner.now in
    let u : Table = c.args.body.table in
    let count : c.len-track.result ≡ length (free_places f c.args.place) = omega (arith, c.len-track.ensures, ap length c.in-Ok.ensures.places) in
    let used : uses c.args.place f ≡ true = bound_used c.args.build.now c.args.place f u c.requires.made (λ e. c.if-tracks-track.false (c.tracks.ensures ∙ ap (λ (k : Kept). k.table.tracks) c.table.ensures.value ∙ e ∙ sym count)) in
    subst (λ n. IsShaped c.args.build.now.mode c.args.build.now.base (n + 1) u) (sym count) (body_shape c.args.build.now c.args.place f u c.requires.made used)

pub returns-in-Ok-without_track-clause-made : goal.returns-in-Ok-without_track-clause-made
returns-in-Ok-without_track-clause-made c =
    let f = formula_of c.args.inner.now in
    let u : Table = c.args.body.table in
    let t = c.in-Ok-without_track.made.table in
    let count : c.len-track.result ≡ length (free_places f c.args.place) = omega (arith, c.len-track.ensures, ap length c.in-Ok.ensures.places) in
    let used : uses c.args.place f ≡ true = bound_used c.args.build.now c.args.place f u c.requires.made (λ e. c.if-tracks-track.false (c.tracks.ensures ∙ ap (λ (k : Kept). k.table.tracks) c.table.ensures.value ∙ e ∙ sym count)) in
    bound_made c.args.build.now (sort_of c.args.sort) c.args.place f u t c.requires.made used
    (subst (λ n. IsShaped c.args.build.now.mode c.args.build.now.base n t) count c.in-Ok-without_track.ensures.shape)
    (subst (λ n. IsForgotten c.args.build.now.mode (sort_of c.args.sort) c.args.build.now n u t) count c.in-Ok-without_track.ensures.made)

pub returns-in-Ok-without_track-clause-stands : goal.returns-in-Ok-without_track-clause-stands
returns-in-Ok-without_track-clause-stands c =
    let m : ℕ = c.args.place in
    let f = formula_of c.args.inner.now in
    let u : Table = c.args.body.table in
    let t = c.in-Ok-without_track.made.table in
    let count : c.len-track.result ≡ length (free_places f m) = omega (arith, c.len-track.ensures, ap length c.in-Ok.ensures.places) in
    let used : uses m f ≡ true = bound_used c.args.build.now m f u c.requires.made (λ e. c.if-tracks-track.false (c.tracks.ensures ∙ ap (λ (k : Kept). k.table.tracks) c.table.ensures.value ∙ e ∙ sym count)) in
    forgotten_stands c.args.build.now.mode (sort_of c.args.sort) c.args.build.now m f u t refl c.requires.sort used
    (body_shape c.args.build.now m f u c.requires.made used)
    (subst (λ n. IsShaped c.args.build.now.mode c.args.build.now.base n t) count c.in-Ok-without_track.ensures.shape)
    (subst (λ n. IsForgotten c.args.build.now.mode (sort_of c.args.sort) c.args.build.now n u t) count c.in-Ok-without_track.ensures.made) c.requires.stands

pub returns-clause-refused : goal.returns-clause-refused
returns-clause-refused c = λ no.
    let f = formula_of c.args.inner.now in
    let u : Table = c.args.body.table in
    let count : c.len-track.result ≡ length (free_places f c.args.place) = omega (arith, c.len-track.ensures, ap length c.in-Ok.ensures.places) in
    let used : uses c.args.place f ≡ true = bound_used c.args.build.now c.args.place f u c.requires.made (λ e. c.if-tracks-track.false (c.tracks.ensures ∙ ap (λ (k : Kept). k.table.tracks) c.table.ensures.value ∙ e ∙ sym count)) in
    bound_refused c.args.build.now (sort_of c.args.sort) c.args.place f u c.in-Err-without_track.error c.requires.made used c.requires.stands
    (subst (λ n. IsForgettingRefused c.args.build.now.mode (sort_of c.args.sort) c.args.build.now n u c.in-Err-without_track.error) count (c.in-Err-without_track.ensures.refused no))
