-- The words, the number of the sign vector, then each word after its name.
use Rattle.canon_text.proofs.Steps.{go_on, cut}
use Rattle.lash_command.proofs.lines.put_not_weak.Goals as goal

pub returns-in_err-put-clause-bytes : goal.returns-in_err-put-clause-bytes
returns-in_err-put-clause-bytes g c =
    cut c.from_residual.result c.from_residual.ensures.0 _ _ _ _ _ _ c.in_err-put.ensures.bytes

pub returns-in_err-put_number-clause-bytes : goal.returns-in_err-put_number-clause-bytes
returns-in_err-put_number-clause-bytes g c =
    go_on _ _ _ _ c.in_ok-put.ensures.bytes (cut c.from_residual-in_err-put_number.result c.from_residual-in_err-put_number.ensures.0 _ _ _ _ _ _ c.in_err-put_number.ensures.bytes)

pub returns-in_err-put_part-clause-bytes : goal.returns-in_err-put_part-clause-bytes
returns-in_err-put_part-clause-bytes g c =
    go_on _ _ _ _ c.in_ok-put.ensures.bytes (go_on _ _ _ _ c.in_ok-put_number.ensures.bytes (cut c.from_residual-in_err-put_part.result c.from_residual-in_err-put_part.ensures.0 _ _ _ _ _ _ c.in_err-put_part.ensures.bytes))

pub returns-in_err-put_part-2-clause-bytes : goal.returns-in_err-put_part-2-clause-bytes
returns-in_err-put_part-2-clause-bytes g c =
    go_on _ _ _ _ c.in_ok-put.ensures.bytes (go_on _ _ _ _ c.in_ok-put_number.ensures.bytes (go_on _ _ _ _ c.in_ok-put_part.ensures.bytes (cut c.from_residual-in_err-put_part-2.result c.from_residual-in_err-put_part-2.ensures.0 _ _ _ _ _ _ c.in_err-put_part-2.ensures.bytes)))

pub returns-in_err-put_part-3-clause-bytes : goal.returns-in_err-put_part-3-clause-bytes
returns-in_err-put_part-3-clause-bytes g c =
    go_on _ _ _ _ c.in_ok-put.ensures.bytes (go_on _ _ _ _ c.in_ok-put_number.ensures.bytes (go_on _ _ _ _ c.in_ok-put_part.ensures.bytes (go_on _ _ _ _ c.in_ok-put_part-2.ensures.bytes (cut c.from_residual-in_err-put_part-3.result c.from_residual-in_err-put_part-3.ensures.0 _ _ _ _ _ _ c.in_err-put_part-3.ensures.bytes))))

pub returns-clause-bytes : goal.returns-clause-bytes
returns-clause-bytes g c =
    go_on _ _ _ _ c.in_ok-put.ensures.bytes (go_on _ _ _ _ c.in_ok-put_number.ensures.bytes (go_on _ _ _ _ c.in_ok-put_part.ensures.bytes (go_on _ _ _ _ c.in_ok-put_part-2.ensures.bytes (go_on _ _ _ _ c.in_ok-put_part-3.ensures.bytes c.put_part-4.ensures.bytes))))
