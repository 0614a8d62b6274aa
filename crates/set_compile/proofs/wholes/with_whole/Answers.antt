use Rattle.std.proofs.Common.{◌≡◌, ℕ, length, sym, ap, ◌∙◌, subst}
use mathlib.Core.Logic.{inr}
use Rattle.std.proofs.lemmas.List.FromFn.{length-range_with_len}
use Rattle.lash_model.specs.Tables.{Table}
use Rattle.product_ops.specs.Products.{IsHeavyProduct}
use Rattle.product_ops.specs.Tracks.{TrackLists}
use Rattle.product_ops.specs.declared.operation.Op.TheVariants.{And as Both}
use Rattle.step_tables.specs.Kept.{Kept}
use Rattle.set_compile.specs.Steps.{IsOfPairs, with_track}
use Rattle.set_compile.proofs.Modes.{one_mode}
use Rattle.set_compile.proofs.wholes.with_whole.Goals as goal

pub join-requires-clause-kinds : goal.join-requires-clause-kinds
join-requires-clause-kinds c = one_mode c.args.build.now.mode c.args.made.now.table c.in-Ok.wholes.table c.requires.shape.kind c.in-Ok.ensures.made.shape.kind

pub join-requires-clause-base : goal.join-requires-clause-base
join-requires-clause-base c = c.requires.shape.base_is ∙ sym c.in-Ok.ensures.made.shape.base_is

pub join-requires-clause-left_tracks : goal.join-requires-clause-left_tracks
join-requires-clause-left_tracks c = ap (λ (m : TrackLists). length m.left) c.in-Ok-track_map.ensures ∙ length-range_with_len 0 c.tracks-tracks.result ∙ c.tracks-tracks.ensures ∙ ap (λ (k : Kept). k.table.tracks) c.table.ensures.value

pub join-requires-clause-right_tracks : goal.join-requires-clause-right_tracks
join-requires-clause-right_tracks c = ap (λ (m : TrackLists). length m.right) c.in-Ok-track_map.ensures ∙ sym c.in-Ok.ensures.made.shape.tracks_are

pub returns-in-Ok-join-clause-made : goal.returns-in-Ok-join-clause-made
returns-in-Ok-join-clause-made c =
    let u : Table = c.args.made.now.table in
    let v : Table = c.in-Ok.wholes.table in
    let t : Table = c.in-Ok-join.whole.table in
    let m : ℕ = u.tracks in
    let same : c.in-Ok-track_map.map ≡ with_track m c.args.place =
    c.in-Ok-track_map.ensures ∙ ap (λ n. with_track n c.args.place) (c.tracks-tracks.ensures ∙ ap (λ (k : Kept). k.table.tracks) c.table.ensures.value) in
    let s = c.in-Ok-join.ensures.shape c.args.build.now.mode c.requires.shape.kind in
    record {
      shape = record {
        canonical = s.canonical;
        kind = s.kind;
        base_is = s.base_is ∙ c.requires.shape.base_is;
        tracks_are = s.tracks_are ∙ ap (λ (k : TrackLists). k.tracks) same;
      };
      wholes = v;
      wholes_made = c.in-Ok.ensures.made;
      joins = subst (λ k. IsOfPairs Both u v k c.args.build.now.limit t) same c.in-Ok-join.ensures.made;
    }

pub returns-clause-heavy : goal.returns-clause-heavy
returns-clause-heavy c = λ is.
    let u : Table = c.args.made.now.table in
    let v : Table = c.in-Ok.wholes.table in
    let same : c.in-Ok-track_map.map ≡ with_track u.tracks c.args.place =
    c.in-Ok-track_map.ensures ∙ ap (λ n. with_track n c.args.place) (c.tracks-tracks.ensures ∙ ap (λ (k : Kept). k.table.tracks) c.table.ensures.value) in
    inr (v, (c.in-Ok.ensures.made, subst (λ k. IsHeavyProduct u v k c.args.build.now.limit) same (c.in-Err-join.ensures.heavy is)))
