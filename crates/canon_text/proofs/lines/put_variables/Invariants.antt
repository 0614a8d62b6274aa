-- The first variables were put.
use Rattle.std.proofs.Common.{◌≤◌, take}
use Rattle.automaton_texts.specs.Text.{variables_text}
use Rattle.lash_io.specs.Blocks.{Moves}
use Rattle.canon_text.proofs.lines.put_variables.Given as goal

abbrev pub invariant-loop-at : goal.invariant-loop-at
invariant-loop-at g l =
    Moves (g.K.Sink.held l.initial.sink) l.initial.block (g.K.Sink.held l.sink) l.block (variables_text (take l.at l.vars))
    × (g.K.Sink.faults l.initial.sink ≤ g.K.Sink.faults l.sink)
