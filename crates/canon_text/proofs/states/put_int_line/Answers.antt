-- The number, the output, the targets, then the end of the line.
use Rattle.canon_text.proofs.Steps.{go_on, cut}
use Rattle.canon_text.proofs.states.put_int_line.Goals as goal

pub returns-in_err-put_number-clause-bytes : goal.returns-in_err-put_number-clause-bytes
returns-in_err-put_number-clause-bytes g c = cut c.from_residual.result c.from_residual.ensures.0 _ _ _ _ _ _ c.in_err-put_number.ensures.bytes

pub returns-in_err-put_out-clause-bytes : goal.returns-in_err-put_out-clause-bytes
returns-in_err-put_out-clause-bytes g c = rw (← c.out.ensures.value) (go_on _ _ _ _ c.in_ok-put_number.ensures.bytes (cut c.from_residual-in_err-put_out.result c.from_residual-in_err-put_out.ensures.0 _ _ _ _ _ _ c.in_err-put_out.ensures.bytes))

pub returns-in_err-put_int_targets-clause-bytes : goal.returns-in_err-put_int_targets-clause-bytes
returns-in_err-put_int_targets-clause-bytes g c = rw (← c.out.ensures.value) (go_on _ _ _ _ c.in_ok-put_number.ensures.bytes (go_on _ _ _ _ c.in_ok-put_out.ensures.bytes (cut c.from_residual-in_err-put_int_targets.result c.from_residual-in_err-put_int_targets.ensures.0 _ _ _ _ _ _ c.in_err-put_int_targets.ensures.bytes)))

pub returns-clause-bytes : goal.returns-clause-bytes
returns-clause-bytes g c = rw (← c.out.ensures.value) (go_on _ _ _ _ c.in_ok-put_number.ensures.bytes (go_on _ _ _ _ c.in_ok-put_out.ensures.bytes (go_on _ _ _ _ c.in_ok-put_int_targets.ensures.bytes c.put.ensures.bytes)))
