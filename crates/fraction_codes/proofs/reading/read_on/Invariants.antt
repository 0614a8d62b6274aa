-- The first letters were read.
use Rattle.std.proofs.Common.{take}
use Rattle.fraction_codes.specs.Steps.{IsReadOn}
use Rattle.fraction_codes.proofs.reading.read_on.Given as goal

abbrev pub invariant-loop-letter : goal.invariant-loop-letter
invariant-loop-letter l = IsReadOn l.base l.tracks l.track (take l.letter-index l.word) l.from l.to
