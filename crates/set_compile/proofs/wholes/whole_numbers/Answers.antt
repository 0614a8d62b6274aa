use Rattle.std.proofs.Common.{◌∙◌, sym, subst}
use Rattle.lash_model.specs.Tables.{Table}
use Rattle.set_compile.specs.Kinds.{IsShaped}
use Rattle.set_compile.specs.declared.build.Mode.TheVariants.{Mixed}
use Rattle.set_compile.proofs.Modes.{same_lassos}
use Rattle.set_compile.proofs.wholes.whole_numbers.Goals as goal

pub returns-in-Ok-minimized-clause-made : goal.returns-in-Ok-minimized-clause-made
returns-in-Ok-minimized-clause-made c =
    let t : Table = c.in-Ok.table.table in
    let u : Table = c.in-Ok-minimized.made.table in
    let s = c.in-Ok-minimized.ensures.shape Mixed c.in-Ok.ensures.stands.fractions in
    let shape : IsShaped Mixed c.args.build.now.base 1 u = record {
      canonical = s.canonical;
      kind = s.kind;
      base_is = s.base_is ∙ c.in-Ok.ensures.whole.base;
      tracks_are = s.tracks_are ∙ c.in-Ok.ensures.whole.tracks;
    } in
    record {
      shape = subst (λ mode. IsShaped mode c.args.build.now.base 1 u) (sym c.requires) shape;
      within = c.in-Ok.ensures.within;
      whole_table = t;
      counts = c.in-Ok.ensures.whole;
      same = same_lassos t u c.in-Ok.ensures.stands.fractions c.in-Ok-minimized.ensures.same;
    }
