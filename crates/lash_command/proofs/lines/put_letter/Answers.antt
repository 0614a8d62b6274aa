-- The comma, then the letter.
use Rattle.canon_text.proofs.Steps.{go_on, cut}
use Rattle.lash_command.proofs.lines.put_letter.Goals as goal

pub returns-in_err-put-clause-bytes : goal.returns-in_err-put-clause-bytes
returns-in_err-put-clause-bytes g c = cut c.from_residual.result c.from_residual.ensures.0 _ _ _ _ _ _ c.in_err-put.ensures.bytes

pub returns-clause-bytes : goal.returns-clause-bytes
returns-clause-bytes g c = go_on _ _ _ _ c.in_ok-put.ensures.bytes c.put_number.ensures.bytes
