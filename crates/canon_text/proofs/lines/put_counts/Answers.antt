-- The three lines.
use Rattle.canon_text.proofs.Steps.{go_on, cut}
use Rattle.automaton_texts.specs.Text.{counts}
use Rattle.canon_text.proofs.lines.put_counts.Goals as goal

pub returns-in_err-put_number_line-clause-bytes : goal.returns-in_err-put_number_line-clause-bytes
unfolding counts
returns-in_err-put_number_line-clause-bytes g c = rw (← c.ints.ensures) (cut c.from_residual.result c.from_residual.ensures.0 _ _ _ _ _ _ c.in_err-put_number_line.ensures.bytes)

pub returns-in_err-put_fracs_line-clause-bytes : goal.returns-in_err-put_fracs_line-clause-bytes
unfolding counts
returns-in_err-put_fracs_line-clause-bytes g c = rw (← c.ints.ensures, ← c.fracs.ensures) (go_on _ _ _ _ c.in_ok-put_number_line.ensures.bytes (cut c.from_residual-in_err-put_fracs_line.result c.from_residual-in_err-put_fracs_line.ensures.0 _ _ _ _ _ _ c.in_err-put_fracs_line.ensures.bytes))

pub returns-clause-bytes : goal.returns-clause-bytes
unfolding counts
returns-clause-bytes g c = rw (← c.ints.ensures, ← c.fracs.ensures) (go_on _ _ _ _ c.in_ok-put_number_line.ensures.bytes (go_on _ _ _ _ c.in_ok-put_fracs_line.ensures.bytes c.put_roots_line.ensures.bytes))
