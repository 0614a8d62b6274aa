use Rattle.std.proofs.Common.{◌<◌, arith, ◌∙◌, sym, subst}
use Rattle.lash_model.specs.Tables.{Table, letters, fracs}
use Rattle.part_laws.specs.CanonicalMixed.{fraction_graph, IsCanonicalMixed}
use Rattle.part_laws.specs.Graphs.{IsWeak}
use Rattle.step_tables.specs.Kept.{Kept}
use Rattle.subset_build.specs.Projection.{kept}
use Rattle.set_compile.specs.Kinds.{IsShaped}
use Rattle.set_compile.specs.Steps.{IsOfBreakpoints}
use Rattle.set_compile.specs.declared.build.Mode.TheVariants.{Mixed}
use Rattle.set_compile.proofs.Carrying.{some_lasso_kept}
use Rattle.set_compile.proofs.Modes.{same_lassos}
use Rattle.set_compile.proofs.binding.forgotten.Goals as goal

pub project_real-requires-clause-fractions : goal.project_real-requires-clause-fractions
project_real-requires-clause-fractions c = subst (λ (k : Kept). 0 < fracs k.table) (sym c.table.ensures.value) c.requires.fractions

pub project_real-requires-clause-weak : goal.project_real-requires-clause-weak
project_real-requires-clause-weak c =
    let form : IsCanonicalMixed c.args.body.now.table = c.table.ensures.fractions c.requires.fractions in
    subst (λ (k : Kept). IsWeak (letters k.table) (fraction_graph k.table)) (sym c.table.ensures.value) form.weak

pub returns-in-Ok-minimized-clause-shape : goal.returns-in-Ok-minimized-clause-shape
returns-in-Ok-minimized-clause-shape c =
    let b : Kept = c.table.result.now in
    let s = c.in-Ok-minimized.ensures.shape Mixed c.in-Ok.ensures.fractions in
    let shape : IsShaped Mixed b.table.base (kept b.table) c.in-Ok-minimized.made.table =
    record { canonical = s.canonical; kind = s.kind; base_is = s.base_is ∙ c.in-Ok.ensures.base; tracks_are = omega (arith, s.tracks_are, c.in-Ok.ensures.tracks) } in
    subst (λ (k : Kept). IsShaped Mixed k.table.base (kept k.table) c.in-Ok-minimized.made.table) c.table.ensures.value shape

pub returns-in-Ok-minimized-clause-made : goal.returns-in-Ok-minimized-clause-made
returns-in-Ok-minimized-clause-made c =
    let b : Kept = c.table.result.now in
    let t : Table = c.in-Ok.table.table in
    let u : Table = c.in-Ok-minimized.made.table in
    let made : IsOfBreakpoints b.table c.args.track c.args.limit u = record {
      form = t;
      counts = c.in-Ok.ensures.projection;
      lassos = some_lasso_kept b.table c.args.track t u (sym c.in-Ok-minimized.ensures.base) (sym c.in-Ok-minimized.ensures.tracks) c.in-Ok.ensures.lassos
          (same_lassos t u c.in-Ok.ensures.fractions c.in-Ok-minimized.ensures.same);
    } in
    subst (λ (k : Kept). IsOfBreakpoints k.table c.args.track c.args.limit u) c.table.ensures.value made
