use Rattle.std.proofs.Common.{◌+◌, refl, subst}
use Rattle.step_tables.specs.Packing.{IsWordSum}
use Rattle.step_tables.proofs.table.packing.Table+Packed.words.Goals as goal

pub returns : goal.returns
returns c =
    subst (λ k. IsWordSum k (c.word_count.result + c.word_count-2.result + c.word_count-3.result + c.word_count-4.result + c.word_count-5.result)) c.self.view_is
    (record {
      roots = record { bits = c.self.inside.roots.bits; is = refl; words = c.word_count.result; enough = c.word_count.ensures.enough; least = c.word_count.ensures.least };
      rows = record { bits = c.self.inside.rows.bits; is = refl; words = c.word_count-2.result; enough = c.word_count-2.ensures.enough; least = c.word_count-2.ensures.least };
      outs = record { bits = c.self.inside.outs.bits; is = refl; words = c.word_count-3.result; enough = c.word_count-3.ensures.enough; least = c.word_count-3.ensures.least };
      frac_rows = record { bits = c.self.inside.frac_rows.bits; is = refl; words = c.word_count-4.result; enough = c.word_count-4.ensures.enough; least = c.word_count-4.ensures.least };
      colours = record { bits = c.self.inside.colours.bits; is = refl; words = c.word_count-5.result; enough = c.word_count-5.ensures.enough; least = c.word_count-5.ensures.least };
      together = refl;
    })
