-- The digits of the first letters were put.
use Rattle.std.proofs.Common.{◌≤◌, take}
use Rattle.lash_io.specs.Blocks.{Moves}
use Rattle.fraction_codes.specs.DigitText.{word_text}
use Rattle.fraction_codes.proofs.text.put_word.Given as goal

abbrev pub invariant-loop-letter : goal.invariant-loop-letter
invariant-loop-letter g l =
    Moves (g.K.Sink.held l.initial.sink) l.initial.block (g.K.Sink.held l.sink) l.block (word_text l.place.base l.place.tracks l.place.track (take l.letter-index l.word))
    × (g.K.Sink.faults l.initial.sink ≤ g.K.Sink.faults l.sink)
