-- The part up to the point, then the fraction or nothing.
use Rattle.fraction_codes.proofs.Putting.{go_on, cut}
use Rattle.fraction_codes.proofs.text.put_track.Goals as goal

pub returns-in_err-put_whole-clause-bytes : goal.returns-in_err-put_whole-clause-bytes
returns-in_err-put_whole-clause-bytes g c = cut c.from_residual.result c.from_residual.ensures.0 _ _ _ _ _ _ c.in_err-put_whole.ensures.bytes

pub returns-then-fraction-clause-bytes : goal.returns-then-fraction-clause-bytes
returns-then-fraction-clause-bytes g c = rw c.if-fraction.true (go_on _ _ _ _ c.in_ok-put_whole.ensures.bytes c.put_fraction.ensures.bytes)
