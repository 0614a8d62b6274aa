use Rattle.std.proofs.Common.{◌<◌, ◌^◌, subst, sym}
use Rattle.product_ops.specs.Pairs.{Operand}
use Rattle.product_ops.proofs.TrackReading.{letter_reading_in}
use Rattle.product_ops.proofs.reading.Reader.fraction_step.Goals as goal

pub frac_step-requires-clause-letter : goal.frac_step-requires-clause-letter
frac_step-requires-clause-letter g c = letter_reading_in (record {
  table = c.self.inside.table.now.table;
  tracks = c.self.inside.tracks;
  places =
      c.self.inside.places.now;
}) c.self.inside.letters.items c.self.inside.signs.items c.self.invariant c.args.letter c.index.result.now
    (subst (λ (v : Operand). c.args.letter < v.table.base ^ v.tracks) (sym c.self.view_is) c.requires.letter) c.index.ensures
