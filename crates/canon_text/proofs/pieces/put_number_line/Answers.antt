-- The word, the number, then the end of the line.
use Rattle.canon_text.proofs.Steps.{go_on, cut}
use Rattle.canon_text.proofs.pieces.put_number_line.Goals as goal

pub returns-in_err-put-clause-bytes : goal.returns-in_err-put-clause-bytes
returns-in_err-put-clause-bytes g c = cut c.from_residual.result c.from_residual.ensures.0 _ _ _ _ _ _ c.in_err-put.ensures.bytes

pub returns-in_err-put_spaced-clause-bytes : goal.returns-in_err-put_spaced-clause-bytes
returns-in_err-put_spaced-clause-bytes g c = go_on _ _ _ _ c.in_ok-put.ensures.bytes (cut c.from_residual-in_err-put_spaced.result c.from_residual-in_err-put_spaced.ensures.0 _ _ _ _ _ _ c.in_err-put_spaced.ensures.bytes)

pub returns-clause-bytes : goal.returns-clause-bytes
returns-clause-bytes g c = go_on _ _ _ _ c.in_ok-put.ensures.bytes (go_on _ _ _ _ c.in_ok-put_spaced.ensures.bytes c.put-2.ensures.bytes)
