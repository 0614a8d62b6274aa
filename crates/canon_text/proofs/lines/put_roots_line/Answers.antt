-- The word, the roots, then the end of the line.
use Rattle.canon_text.proofs.Steps.{go_on, cut}
use Rattle.canon_text.proofs.lines.put_roots_line.Goals as goal

pub returns-in_err-put-clause-bytes : goal.returns-in_err-put-clause-bytes
returns-in_err-put-clause-bytes g c = cut c.from_residual.result c.from_residual.ensures.0 _ _ _ _ _ _ c.in_err-put.ensures.bytes

pub returns-in_err-put_roots-clause-bytes : goal.returns-in_err-put_roots-clause-bytes
returns-in_err-put_roots-clause-bytes g c = go_on _ _ _ _ c.in_ok-put.ensures.bytes (cut c.from_residual-in_err-put_roots.result c.from_residual-in_err-put_roots.ensures.0 _ _ _ _ _ _ c.in_err-put_roots.ensures.bytes)

pub returns-clause-bytes : goal.returns-clause-bytes
returns-clause-bytes g c = go_on _ _ _ _ c.in_ok-put.ensures.bytes (go_on _ _ _ _ c.in_ok-put_roots.ensures.bytes c.put-2.ensures.bytes)
