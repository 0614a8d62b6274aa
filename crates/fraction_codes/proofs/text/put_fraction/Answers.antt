-- The point, the stem's digits, a bracket, the cycle's digits and a bracket.
use Rattle.fraction_codes.proofs.Putting.{go_on, cut}
use Rattle.fraction_codes.proofs.text.put_fraction.Goals as goal

pub returns-in_err-put-clause-bytes : goal.returns-in_err-put-clause-bytes
returns-in_err-put-clause-bytes g c = cut c.from_residual.result c.from_residual.ensures.0 _ _ _ _ _ _ c.in_err-put.ensures.bytes

pub returns-in_err-put_word-clause-bytes : goal.returns-in_err-put_word-clause-bytes
returns-in_err-put_word-clause-bytes g c = go_on _ _ _ _ c.in_ok-put.ensures.bytes (cut c.from_residual-in_err-put_word.result c.from_residual-in_err-put_word.ensures.0 _ _ _ _ _ _ (rw c.letters.ensures at c.in_err-put_word.ensures.bytes))

pub returns-in_err-put-2-clause-bytes : goal.returns-in_err-put-2-clause-bytes
returns-in_err-put-2-clause-bytes g c = go_on _ _ _ _ c.in_ok-put.ensures.bytes (go_on _ _ _ _ (rw c.letters.ensures at c.in_ok-put_word.ensures.bytes) (cut c.from_residual-in_err-put-2.result c.from_residual-in_err-put-2.ensures.0 _ _ _ _ _ _ c.in_err-put-2.ensures.bytes))

pub returns-in_err-put_word-2-clause-bytes : goal.returns-in_err-put_word-2-clause-bytes
returns-in_err-put_word-2-clause-bytes g c = go_on _ _ _ _ c.in_ok-put.ensures.bytes (go_on _ _ _ _ (rw c.letters.ensures at c.in_ok-put_word.ensures.bytes) (go_on _ _ _ _ c.in_ok-put-2.ensures.bytes (cut c.from_residual-in_err-put_word-2.result c.from_residual-in_err-put_word-2.ensures.0 _ _ _ _ _ _ (rw c.letters-2.ensures at c.in_err-put_word-2.ensures.bytes))))

pub returns-clause-bytes : goal.returns-clause-bytes
returns-clause-bytes g c = go_on _ _ _ _ c.in_ok-put.ensures.bytes (go_on _ _ _ _ (rw c.letters.ensures at c.in_ok-put_word.ensures.bytes) (go_on _ _ _ _ c.in_ok-put-2.ensures.bytes (go_on _ _ _ _ (rw c.letters-2.ensures at c.in_ok-put_word-2.ensures.bytes) c.put-3.ensures.bytes)))
