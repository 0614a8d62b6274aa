use Rattle.product_ops.specs.Tracks.{AreRead}
use Rattle.product_ops.proofs.reading.read_letters.Given as goal

abbrev pub invariant-loop-letter : goal.invariant-loop-letter
invariant-loop-letter l = AreRead l.base l.tracks l.places l.letter l.readings.items
