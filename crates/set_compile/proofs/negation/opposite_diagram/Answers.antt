use Rattle.std.proofs.Common.{sym, subst}
use mathlib.Core.Logic.{inl}
use Rattle.lash_model.specs.Standing.{StandsForWhole}
use Rattle.lash_model.specs.Sets.{set_of}
use Rattle.step_tables.specs.Kept.{Kept}
use Rattle.set_compile.specs.Kinds.{Stands}
use Rattle.set_compile.proofs.Modes.{as_whole}
use Rattle.set_compile.proofs.negation.opposite_diagram.Goals as goal

pub returns-clause-stands : goal.returns-clause-stands
returns-clause-stands c = λ f s p.
    let old : StandsForWhole c.into_table-table.result.table (set_of f s) =
    subst (λ (k : Kept). StandsForWhole k.table (set_of f s)) (sym c.into_table-table.ensures.value) (as_whole c.args.part.table (set_of f s) c.requires p) in
    subst (λ (k : Kept). Stands k.table (λ ns d. set_of f s ns d → ⊥)) (sym c.new.ensures) (inl (c.complement.ensures.stands f s old))
