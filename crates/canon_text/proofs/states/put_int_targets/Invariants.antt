-- The targets of the first letters were put.
use Rattle.std.proofs.Common.{◌≤◌, ◌+◌, ◌*◌, ◌^◌, slice_index_or}
use Rattle.automaton_texts.specs.Text.{texts_upto, number_text}
use Rattle.lash_io.specs.Blocks.{Moves}
use Rattle.canon_text.proofs.states.put_int_targets.Given as goal

abbrev pub invariant-loop-letter : goal.invariant-loop-letter
invariant-loop-letter g l =
    Moves (g.K.Sink.held l.initial.sink) l.initial.block (g.K.Sink.held l.sink) l.block (texts_upto (λ letter. number_text (slice_index_or l.table.table.rows (l.state * l.table.table.base ^ l.table.table.tracks + letter) 0)) l.letter)
    × (g.K.Sink.faults l.initial.sink ≤ g.K.Sink.faults l.sink)
