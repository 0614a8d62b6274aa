use Rattle.std.proofs.Common.{take}
use Rattle.script_pieces.specs.Searching.{Passes}
use Rattle.script_pieces.proofs.search.pass_over.Given as goal

abbrev pub invariant-loop-passed : goal.invariant-loop-passed
invariant-loop-passed l = Passes l.in_comment (take l.passed l.bytes) l.now
