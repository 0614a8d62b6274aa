use Rattle.std.proofs.Common.{◌≤◌, ◌^◌, length, sym, ap, ◌∙◌, subst}
use Rattle.lash_model.specs.Sets.{set_of}
use Rattle.formula_core.specs.Counts.{free_places}
use Rattle.formula_core.specs.Shape.{formula_of}
use mathlib.Core.Logic.{inr}
use Rattle.lash_model.specs.Tables.{Table}
use Rattle.product_ops.specs.Operations.{joined}
use Rattle.product_ops.specs.Products.{IsHeavyProduct}
use Rattle.product_ops.specs.Tracks.{TrackLists}
use Rattle.product_ops.specs.declared.operation.Op.TheVariants.{And as Both}
use Rattle.set_compile.specs.Kinds.{Stands}
use Rattle.set_compile.specs.Positions.{spread}
use Rattle.set_compile.specs.Steps.{always, all_tracks}
use Rattle.set_compile.proofs.Making.{shape_of}
use Rattle.set_compile.proofs.Modes.{one_mode}
use Rattle.set_compile.proofs.Spreading.{wide_stands}
use Rattle.set_compile.proofs.Widening.{no_always_tracks, one_base, is_widened}
use Rattle.set_compile.proofs.compiling.widened.Goals as goal

pub join-requires-clause-kinds : goal.join-requires-clause-kinds
join-requires-clause-kinds c = one_mode c.args.build.now.mode c.args.made.now.table c.in-Ok.whole.table
    (shape_of c.args.build.now c.args.places (formula_of c.args.formula.now) c.args.made.now.table c.requires.made).kind
    (shape_of c.args.build.now c.args.places always c.in-Ok.whole.table c.in-Ok.ensures.made).kind

pub join-requires-clause-base : goal.join-requires-clause-base
join-requires-clause-base c = one_base c.args.build.now c.args.places (formula_of c.args.formula.now) always c.args.made.now.table c.in-Ok.whole.table c.requires.made c.in-Ok.ensures.made

pub join-requires-clause-left_tracks : goal.join-requires-clause-left_tracks
join-requires-clause-left_tracks c = ap (λ (k : TrackLists). length k.left) c.in-Ok-wide_map.ensures.tracks ∙ sym (shape_of c.args.build.now c.args.places (formula_of c.args.formula.now) c.args.made.now.table c.requires.made).tracks_are

pub join-requires-clause-right_tracks : goal.join-requires-clause-right_tracks
join-requires-clause-right_tracks c = ap (λ (k : TrackLists). length k.right) c.in-Ok-wide_map.ensures.tracks ∙ no_always_tracks c.args.build.now c.args.places c.in-Ok.whole.table c.in-Ok.ensures.made

pub join-requires-clause-letters : goal.join-requires-clause-letters
join-requires-clause-letters c = subst (λ (k : TrackLists). c.args.made.now.table.base ^ k.tracks ≤ 4096) (sym c.in-Ok-wide_map.ensures.tracks) (subst (λ b. b ^ c.args.places ≤ 4096) (sym (shape_of c.args.build.now c.args.places (formula_of c.args.formula.now) c.args.made.now.table c.requires.made).base_is) c.requires.letters)

pub returns-in-Ok-join-clause-widened : goal.returns-in-Ok-join-clause-widened
returns-in-Ok-join-clause-widened c = is_widened c.args.build.now c.args.places (formula_of c.args.formula.now) c.args.made.now.table c.in-Ok.whole.table c.in-Ok-join.wide.table c.in-Ok-wide_map.map c.in-Ok-wide_map.ensures.tracks c.requires.made c.in-Ok.ensures.made (c.in-Ok-join.ensures.shape c.args.build.now.mode (shape_of c.args.build.now c.args.places (formula_of c.args.formula.now) c.args.made.now.table c.requires.made).kind) c.in-Ok-join.ensures.made

pub returns-in-Ok-join-clause-stands : goal.returns-in-Ok-join-clause-stands
returns-in-Ok-join-clause-stands c =
    let m = c.args.places in
    let f = formula_of c.args.formula.now in
    let both : Stands c.in-Ok-join.wide.table (joined Both (set_of f (spread m (free_places f m))) (set_of always (spread m (free_places always m))) (all_tracks f m)) = subst (λ (k : TrackLists). Stands c.in-Ok-join.wide.table (joined Both (set_of f (spread m (free_places f m))) (set_of always (spread m (free_places always m))) k)) c.in-Ok-wide_map.ensures.tracks (c.in-Ok-join.ensures.stands f always (spread m (free_places f m)) (spread m (free_places always m)) c.requires.stands c.in-Ok.ensures.stands) in
    wide_stands c.depends_on_free_places.ensures.used c.in-Ok-join.wide.table f m c.in-Ok-wide_map.ensures.linear ((c.in-Ok-join.ensures.shape c.args.build.now.mode (shape_of c.args.build.now m f c.args.made.now.table c.requires.made).kind).tracks_are ∙ ap (λ (k : TrackLists). k.tracks) c.in-Ok-wide_map.ensures.tracks) both

pub returns-clause-refused : goal.returns-clause-refused
returns-clause-refused c = λ no.
    let is = c.in-Err-join.ensures.plain no in
    let u : Table = c.args.made.now.table in
    let v : Table = c.in-Ok.whole.table in
    inr (
      is,
      (
        u,
        (
          v,
          (
            (c.requires.made, c.in-Ok.ensures.made),
            subst (λ (k : TrackLists). IsHeavyProduct u v k c.args.build.now.limit) c.in-Ok-wide_map.ensures.tracks (c.in-Err-join.ensures.heavy is),
          ),
        ),
      ),
    )
