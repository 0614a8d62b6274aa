use Rattle.std.proofs.Common.{◌<◌, sym, ap, ◌∙◌, subst}
use mathlib.Core.Logic.{inr}
use Rattle.lash_model.specs.Standing.{StandsForMixed}
use Rattle.lash_model.specs.Sets.{set_of}
use Rattle.lash_model.specs.Tables.{Table, fracs}
use Rattle.part_laws.specs.Opposites.{AcceptOtherLassos}
use Rattle.step_tables.specs.Kept.{Kept}
use Rattle.set_compile.specs.Kinds.{IsOfMode}
use Rattle.set_compile.proofs.Carrying.{others_kept}
use Rattle.set_compile.proofs.Modes.{as_mixed, carried, mode_kept, same_lassos}
use Rattle.set_compile.proofs.Opposing.{changed_base, changed_tracks, changed_fractions}
use Rattle.set_compile.proofs.negation.opposite_fractions.Goals as goal

pub minimized-requires : goal.minimized-requires
minimized-requires c = λ some.
    let old : 0 < fracs c.into_table-table.result.table = subst (λ (k : Kept). 0 < fracs k.table) (sym c.into_table-table.ensures.value) c.requires in
    c.complement.ensures.weak old (c.into_table-table.ensures.fractions old).weak

pub returns-in-Ok-clause-shape : goal.returns-in-Ok-clause-shape
returns-in-Ok-clause-shape c = λ mode k.
    let old : Kept = c.into_table-table.result in
    let new : Kept = c.complement.new.table in
    let some : 0 < fracs old.table = subst (λ (k : Kept). 0 < fracs k.table) (sym c.into_table-table.ensures.value) c.requires in
    let some_new : 0 < fracs new.table = changed_fractions old new (c.complement.ensures.recoloured some) some in
    let of_old : IsOfMode mode old.table = subst (λ (k : Kept). IsOfMode mode k.table) (sym c.into_table-table.ensures.value) k in
    let s = c.in-Ok.ensures.shape mode (mode_kept mode old.table new.table (inr (some, some_new)) of_old) in
    record {
      canonical = s.canonical;
      kind = s.kind;
      base_is = s.base_is ∙ changed_base old new (c.complement.ensures.recoloured some) ∙ ap (λ (k : Kept). k.table.base) c.into_table-table.ensures.value;
      tracks_are = s.tracks_are ∙ changed_tracks old new (c.complement.ensures.recoloured some) ∙ ap (λ (k : Kept). k.table.tracks) c.into_table-table.ensures.value;
    }

pub returns-in-Ok-clause-others : goal.returns-in-Ok-clause-others
returns-in-Ok-clause-others c =
    let old : Kept = c.into_table-table.result in
    let new : Kept = c.complement.new.table in
    let u : Table = c.in-Ok.made.table in
    let some : 0 < fracs old.table = subst (λ (k : Kept). 0 < fracs k.table) (sym c.into_table-table.ensures.value) c.requires in
    let some_new : 0 < fracs new.table = changed_fractions old new (c.complement.ensures.recoloured some) some in
    inr (
      c.requires,
      subst (λ (k : Kept). AcceptOtherLassos k.table u) c.into_table-table.ensures.value
          (others_kept old.table new.table u (changed_base old new (c.complement.ensures.recoloured some)) (changed_tracks old new (c.complement.ensures.recoloured some))
          (c.complement.ensures.lassos some) (same_lassos new.table u some_new c.in-Ok.ensures.same)),
    )

pub returns-in-Ok-clause-stands : goal.returns-in-Ok-clause-stands
returns-in-Ok-clause-stands c = λ f s p.
    let old : StandsForMixed c.into_table-table.result.table (set_of f s) =
    subst (λ (k : Kept). StandsForMixed k.table (set_of f s)) (sym c.into_table-table.ensures.value) (as_mixed c.args.part.table (set_of f s) c.requires p) in
    carried c.complement.new.table.table c.in-Ok.made.table (λ ns d. set_of f s ns d → ⊥) (sym c.in-Ok.ensures.base) (sym c.in-Ok.ensures.tracks)
    c.in-Ok.ensures.kind c.in-Ok.ensures.same (inr (c.complement.ensures.stands_mixed f s old))
