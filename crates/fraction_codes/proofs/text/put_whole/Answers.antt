-- The sign's digit, a colon and the whole digits.
use Rattle.fraction_codes.proofs.Putting.{go_on, cut}
use Rattle.fraction_codes.proofs.text.put_whole.Goals as goal

pub returns-in_err-put_sign-clause-bytes : goal.returns-in_err-put_sign-clause-bytes
returns-in_err-put_sign-clause-bytes g c = cut c.from_residual.result c.from_residual.ensures.0 _ _ _ _ _ _ c.in_err-put_sign.ensures.bytes

pub returns-in_err-put-clause-bytes : goal.returns-in_err-put-clause-bytes
returns-in_err-put-clause-bytes g c = go_on _ _ _ _ c.in_ok-put_sign.ensures.bytes (cut c.from_residual-in_err-put.result c.from_residual-in_err-put.ensures.0 _ _ _ _ _ _ c.in_err-put.ensures.bytes)

pub returns-clause-bytes : goal.returns-clause-bytes
returns-clause-bytes g c = go_on _ _ _ _ c.in_ok-put_sign.ensures.bytes (go_on _ _ _ _ c.in_ok-put.ensures.bytes (rw c.letters.ensures at c.put_word.ensures.bytes))
