use Rattle.std.proofs.Common.{◌≡◌, take}
use Rattle.step_tables.specs.Kept.{answered}
use Rattle.step_tables.proofs.answers.bits_of.Given as goal

abbrev pub invariant-loop-at : goal.invariant-loop-at
invariant-loop-at g l = l.bits.items ≡ answered (g.A.Answers.says_yes l.answers) (take l.at l.found.keys)
