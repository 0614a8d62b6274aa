-- The table with the opposite colours has the base, the tracks and the number of fraction states of the other.
use Rattle.std.proofs.Common.{◌≡◌, ◌<◌, ◌-◌, ap, ◌∙◌, subst, sym}
use Rattle.std.proofs.lemmas.List.{length-map}
use Rattle.lash_model.specs.Tables.{fracs}
use Rattle.part_laws.specs.Opposites.{opposite}
use Rattle.step_tables.specs.Kept.{Kept}

pub changed_base : (old new : Kept) → new ≡ record old { table = opposite old.table } → new.table.base ≡ old.table.base
changed_base old new e = ap (λ (k : Kept). k.table.base) e

pub changed_tracks : (old new : Kept) → new ≡ record old { table = opposite old.table } → new.table.tracks ≡ old.table.tracks
changed_tracks old new e = ap (λ (k : Kept). k.table.tracks) e

pub changed_fractions : (old new : Kept) → new ≡ record old { table = opposite old.table } → 0 < fracs old.table → 0 < fracs new.table
changed_fractions old new e some = subst (λ n. 0 < n) (sym (ap (λ (k : Kept). fracs k.table) e ∙ length-map old.table.colours (λ c. 1 - c))) some
