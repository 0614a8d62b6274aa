-- The numerator, then a slash and the denominator if it is not 1.
use Rattle.std.proofs.Common.{◌∙◌, sym}
use Rattle.canon_text.proofs.Steps.{go_on, cut}
use Rattle.set_answers.proofs.LineParts.{ratio_is}
use Rattle.set_answers.proofs.Sending.{as_text}
use Rattle.set_answers.proofs.lines.put_ratio.Goals as goal

pub returns-in_err-put_integer-clause-bytes : goal.returns-in_err-put_integer-clause-bytes
returns-in_err-put_integer-clause-bytes g c = cut c.from_residual.result c.from_residual.ensures.0 _ _ _ _ _ _ c.in_err-put_integer.ensures.bytes

pub returns-in_err-put-clause-bytes : goal.returns-in_err-put-clause-bytes
returns-in_err-put-clause-bytes g c = as_text _ _ _ _ _ _ _ (ratio_is c.args.value.now (sym c.is_one.ensures ∙ c.if-is_one.false))
    (go_on _ _ _ _ c.in_ok-put_integer.ensures.bytes
    (cut c.from_residual-in_err-put.result c.from_residual-in_err-put.ensures.0 _ _ _ _ _ _ c.in_err-put.ensures.bytes))

pub returns-clause-bytes : goal.returns-clause-bytes
returns-clause-bytes g c = as_text _ _ _ _ _ _ _ (ratio_is c.args.value.now (sym c.is_one.ensures ∙ c.if-is_one.false))
    (go_on _ _ _ _ c.in_ok-put_integer.ensures.bytes (go_on _ _ _ _ c.in_ok-put.ensures.bytes c.put_integer-2.ensures.bytes))
