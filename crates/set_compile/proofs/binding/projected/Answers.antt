use Rattle.std.proofs.Common.{◌≡◌, arith, ◌∙◌, subst}
use Rattle.canonical_laws.specs.Canonical.{AcceptSameWords}
use Rattle.step_tables.specs.Kept.{Kept}
use Rattle.subset_build.specs.Projection.{kept}
use Rattle.set_compile.specs.Kinds.{IsShaped}
use Rattle.set_compile.specs.Steps.{IsOfSubsets}
use Rattle.set_compile.specs.declared.build.Mode.TheVariants.{Whole}
use Rattle.set_compile.proofs.Carrying.{some_kept}
use Rattle.set_compile.proofs.Modes.{same_words}
use Rattle.set_compile.proofs.binding.projected.Goals as goal

pub returns-in-Ok-minimized-clause-shape : goal.returns-in-Ok-minimized-clause-shape
returns-in-Ok-minimized-clause-shape c =
    let b : Kept = c.table.result.now in
    let s = c.in-Ok-minimized.ensures.shape Whole c.in-Ok.ensures.diagram in
    let shape : IsShaped Whole b.table.base (kept b.table) c.in-Ok-minimized.made.table =
    record { canonical = s.canonical; kind = s.kind; base_is = s.base_is ∙ c.in-Ok.ensures.base; tracks_are = omega (arith, s.tracks_are, c.in-Ok.ensures.tracks) } in
    subst (λ (k : Kept). IsShaped Whole k.table.base (kept k.table) c.in-Ok-minimized.made.table) c.table.ensures.value shape

pub returns-in-Ok-minimized-clause-made : goal.returns-in-Ok-minimized-clause-made
returns-in-Ok-minimized-clause-made c =
    let b : Kept = c.table.result.now in
    let t = c.in-Ok.table.table in
    let u = c.in-Ok-minimized.made.table in
    let tracks : t.tracks ≡ kept b.table = omega (arith, c.in-Ok.ensures.tracks) in
    let words : AcceptSameWords t u = same_words t u c.in-Ok.ensures.diagram c.in-Ok-minimized.ensures.same in
    let made : IsOfSubsets b.table c.args.track c.args.limit u = record {
      subset_table = t;
      counts = c.in-Ok.ensures.subsets;
      words = some_kept b.table c.args.track t u c.in-Ok.ensures.base tracks c.in-Ok.ensures.words words;
    } in
    subst (λ (k : Kept). IsOfSubsets k.table c.args.track c.args.limit u) c.table.ensures.value made
