-- The number, the colour, the targets, then the end of the line.
use Rattle.canon_text.proofs.Steps.{go_on, cut}
use Rattle.canon_text.proofs.states.put_frac_line.Goals as goal

pub returns-in_err-put_number-clause-bytes : goal.returns-in_err-put_number-clause-bytes
returns-in_err-put_number-clause-bytes g c = cut c.from_residual.result c.from_residual.ensures.0 _ _ _ _ _ _ c.in_err-put_number.ensures.bytes

pub returns-in_err-put_answer-clause-bytes : goal.returns-in_err-put_answer-clause-bytes
returns-in_err-put_answer-clause-bytes g c = rw (← c.colour.ensures) (go_on _ _ _ _ c.in_ok-put_number.ensures.bytes (cut c.from_residual-in_err-put_answer.result c.from_residual-in_err-put_answer.ensures.0 _ _ _ _ _ _ c.in_err-put_answer.ensures.bytes))

pub returns-in_err-put_frac_targets-clause-bytes : goal.returns-in_err-put_frac_targets-clause-bytes
returns-in_err-put_frac_targets-clause-bytes g c = rw (← c.colour.ensures) (go_on _ _ _ _ c.in_ok-put_number.ensures.bytes (go_on _ _ _ _ c.in_ok-put_answer.ensures.bytes (cut c.from_residual-in_err-put_frac_targets.result c.from_residual-in_err-put_frac_targets.ensures.0 _ _ _ _ _ _ c.in_err-put_frac_targets.ensures.bytes)))

pub returns-clause-bytes : goal.returns-clause-bytes
returns-clause-bytes g c = rw (← c.colour.ensures) (go_on _ _ _ _ c.in_ok-put_number.ensures.bytes (go_on _ _ _ _ c.in_ok-put_answer.ensures.bytes (go_on _ _ _ _ c.in_ok-put_frac_targets.ensures.bytes c.put.ensures.bytes)))
