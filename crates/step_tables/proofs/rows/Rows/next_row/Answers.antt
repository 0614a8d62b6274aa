use Rattle.std.proofs.Common.{length, ◌∷◌, drop, refl, ◌∙◌, sym, ap, ap₂}
use Rattle.std.proofs.lemmas.List.{with_items_is}
use Rattle.step_tables.specs.Rows.{rows_of}
use Rattle.step_tables.proofs.RowsOf.{drop-more}
use Rattle.step_tables.proofs.rows.Rows.next_row.Goals as goal

pub returns : goal.returns
returns g c =
    let written = c.as_slice.ensures.value ∙ with_items_is c.self.inside.row c.write_row.new.row (c.write_row.ensures.width ∙ ap length c.as_mut_slice.ensures.value ∙ sym c.self.inside.row.ok.0) in (
      (refl, (λ _. tt), sym (drop-more 1 c.self.inside.next (rows_of c.self.inside.table.now.table)) ∙ ap (drop 1) c.self.view_is),
      record {
        row = sym c.self.view_is ∙ c.if-not-write_row.ensures.some refl ∙ ap₂ (λ row rows. row ∷ drop 1 rows) (sym written) c.self.view_is;
        none = tt;
        rest = tt;
      },
    )
