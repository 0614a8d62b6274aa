use Rattle.std.proofs.Common.{◌≡◌, take}
use Rattle.solution_pick.proofs.picking.word_of.Given as goal

abbrev pub invariant-loop-letter : goal.invariant-loop-letter
invariant-loop-letter l = l.word ≡ take l.letter-index l.letters
