-- The first lines were put.
use Rattle.std.proofs.Common.{◌≤◌}
use Rattle.automaton_texts.specs.Text.{texts_upto}
use Rattle.lash_io.specs.Blocks.{Moves}
use Rattle.set_answers.specs.Writing.{line_of}
use Rattle.set_answers.proofs.lines.put_lines.Given as goal

abbrev pub invariant-loop-at : goal.invariant-loop-at
invariant-loop-at g l =
    Moves (g.K.Sink.held l.initial.sink) l.initial.block (g.K.Sink.held l.sink) l.block (texts_upto (line_of l.answer) l.at)
    × (g.K.Sink.faults l.initial.sink ≤ g.K.Sink.faults l.sink)
