-- The roots of the first sign vectors were put.
use Rattle.std.proofs.Common.{◌≤◌, slice_index_or}
use Rattle.automaton_texts.specs.Text.{texts_upto, number_text}
use Rattle.lash_io.specs.Blocks.{Moves}
use Rattle.canon_text.proofs.lines.put_roots.Given as goal

abbrev pub invariant-loop-sign : goal.invariant-loop-sign
invariant-loop-sign g l =
    Moves (g.K.Sink.held l.initial.sink) l.initial.block (g.K.Sink.held l.sink) l.block (texts_upto (λ sign. number_text (slice_index_or l.table.table.roots sign 0)) l.sign)
    × (g.K.Sink.faults l.initial.sink ≤ g.K.Sink.faults l.sink)
