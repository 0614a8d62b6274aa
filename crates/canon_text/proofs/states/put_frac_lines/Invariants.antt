-- The lines of the first fraction states were put.
use Rattle.std.proofs.Common.{◌≤◌}
use Rattle.automaton_texts.specs.Text.{texts_upto, frac_line}
use Rattle.lash_io.specs.Blocks.{Moves}
use Rattle.canon_text.proofs.states.put_frac_lines.Given as goal

abbrev pub invariant-loop-state : goal.invariant-loop-state
invariant-loop-state g l =
    Moves (g.K.Sink.held l.initial.sink) l.initial.block (g.K.Sink.held l.sink) l.block (texts_upto (frac_line l.table.table) l.state)
    × (g.K.Sink.faults l.initial.sink ≤ g.K.Sink.faults l.sink)
