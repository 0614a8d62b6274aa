use Rattle.std.proofs.Common.{◌<◌, ◌∙◌, sym, ap, subst}
use Rattle.lash_model.specs.Tables.{Table, letters, fracs}
use Rattle.part_laws.specs.CanonicalMixed.{fraction_graph, IsCanonicalMixed}
use Rattle.part_laws.specs.Graphs.{IsWeak}
use Rattle.step_tables.specs.Kept.{Kept}
use Rattle.set_compile.specs.Compiling.{IsOfIntegers}
use Rattle.set_compile.specs.declared.build.Mode.TheVariants.{Whole}
use Rattle.set_compile.proofs.Carrying.{wholes_kept}
use Rattle.set_compile.proofs.Modes.{same_words}
use Rattle.set_compile.proofs.declaring.integers.Goals as goal

pub restrict_to_ints-requires-clause-fractions : goal.restrict_to_ints-requires-clause-fractions
restrict_to_ints-requires-clause-fractions c = subst (λ (k : Kept). 0 < fracs k.table) (sym c.table.ensures.value) c.requires.fractions

pub restrict_to_ints-requires-clause-weak : goal.restrict_to_ints-requires-clause-weak
restrict_to_ints-requires-clause-weak c =
    let form : IsCanonicalMixed c.args.wide.now.table = c.table.ensures.fractions c.requires.fractions in
    subst (λ (k : Kept). IsWeak (letters k.table) (fraction_graph k.table)) (sym c.table.ensures.value) form.weak

pub returns-in-Ok-minimized-clause-made : goal.returns-in-Ok-minimized-clause-made
returns-in-Ok-minimized-clause-made c =
    let b : Kept = c.table.result.now in
    let t : Table = c.in-Ok.table.table in
    let u : Table = c.in-Ok-minimized.made.table in
    let s = c.in-Ok-minimized.ensures.shape Whole c.in-Ok.ensures.diagram in
    let base = ap (λ (k : Kept). k.table.base) c.table.ensures.value in
    let made : IsOfIntegers c.args.build.now b.table.tracks b.table u = record {
      shape = record { canonical = s.canonical; kind = s.kind; base_is = s.base_is ∙ c.in-Ok.ensures.base ∙ base ∙ c.requires.base; tracks_are = s.tracks_are ∙ c.in-Ok.ensures.tracks };
      words = wholes_kept b.table t u c.in-Ok.ensures.base c.in-Ok.ensures.tracks c.in-Ok.ensures.words (same_words t u c.in-Ok.ensures.diagram c.in-Ok-minimized.ensures.same);
    } in
    subst (λ (k : Kept). IsOfIntegers c.args.build.now k.table.tracks k.table u) c.table.ensures.value made
