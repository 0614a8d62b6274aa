-- The first letters were put.
use Rattle.std.proofs.Common.{◌≤◌, take}
use Rattle.lash_io.specs.Blocks.{Moves}
use Rattle.lash_command.specs.Lines.{letters_text}
use Rattle.lash_command.proofs.lines.put_letters.Given as goal

abbrev pub invariant-loop-letter : goal.invariant-loop-letter
invariant-loop-letter g l =
    Moves (g.E.Sink.held l.initial.sink) l.initial.block (g.E.Sink.held l.sink) l.block (letters_text (take l.letter-index l.letters))
    × (g.E.Sink.faults l.initial.sink ≤ g.E.Sink.faults l.sink)
