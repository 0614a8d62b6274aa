-- The three lines.
use Rattle.canon_text.proofs.Steps.{go_on, cut}
use Rattle.automaton_texts.specs.Text.{heading}
use Rattle.canon_text.proofs.lines.put_heading.Goals as goal

pub returns-in_err-put-clause-bytes : goal.returns-in_err-put-clause-bytes
unfolding heading
returns-in_err-put-clause-bytes g c = cut c.from_residual.result c.from_residual.ensures.0 _ _ _ _ _ _ c.in_err-put.ensures.bytes

pub returns-in_err-put_number_line-clause-bytes : goal.returns-in_err-put_number_line-clause-bytes
unfolding heading
returns-in_err-put_number_line-clause-bytes g c = rw (← c.radix.ensures.value) (go_on _ _ _ _ c.in_ok-put.ensures.bytes (cut c.from_residual-in_err-put_number_line.result c.from_residual-in_err-put_number_line.ensures.0 _ _ _ _ _ _ c.in_err-put_number_line.ensures.bytes))

pub returns-clause-bytes : goal.returns-clause-bytes
unfolding heading
returns-clause-bytes g c = rw (← c.radix.ensures.value) (go_on _ _ _ _ c.in_ok-put.ensures.bytes (go_on _ _ _ _ c.in_ok-put_number_line.ensures.bytes c.put_vars_line.ensures.bytes))
