-- The first line, then those of the variables.
use Rattle.canon_text.proofs.Steps.{go_on, cut}
use Rattle.set_answers.proofs.LineParts.{text_is}
use Rattle.set_answers.proofs.Sending.{as_text}
use Rattle.set_answers.proofs.lines.put_text.Goals as goal

pub returns-in_err-put-clause-bytes : goal.returns-in_err-put-clause-bytes
returns-in_err-put-clause-bytes g c = as_text _ _ _ _ _ _ _ (text_is c.args.answer.now c.requires) (cut c.from_residual.result c.from_residual.ensures.0 _ _ _ _ _ _ c.in_err-put.ensures.bytes)

pub returns-clause-bytes : goal.returns-clause-bytes
returns-clause-bytes g c = as_text _ _ _ _ _ _ _ (text_is c.args.answer.now c.requires) (go_on _ _ _ _ c.in_ok-put.ensures.bytes c.put_lines.ensures.bytes)
