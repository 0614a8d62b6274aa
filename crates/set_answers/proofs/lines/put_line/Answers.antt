-- The name, the value and the digits, a space between each two.
use Rattle.canon_text.proofs.Steps.{go_on, cut}
use Rattle.set_answers.proofs.LineParts.{line_is}
use Rattle.set_answers.proofs.Sending.{as_text}
use Rattle.set_answers.proofs.lines.put_line.Goals as goal

pub returns-in_err-put-clause-bytes : goal.returns-in_err-put-clause-bytes
returns-in_err-put-clause-bytes g c = as_text _ _ _ _ _ _ _ (line_is c.args.answer.now c.args.at c.name.result.now c.requires.answer c.name.ensures.name) (cut c.from_residual.result c.from_residual.ensures.0 _ _ _ _ _ _ c.in_err-put.ensures.bytes)

pub returns-in_err-put-2-clause-bytes : goal.returns-in_err-put-2-clause-bytes
returns-in_err-put-2-clause-bytes g c = as_text _ _ _ _ _ _ _ (line_is c.args.answer.now c.args.at c.name.result.now c.requires.answer c.name.ensures.name) (go_on _ _ _ _ c.in_ok-put.ensures.bytes (cut c.from_residual-in_err-put-2.result c.from_residual-in_err-put-2.ensures.0 _ _ _ _ _ _ c.in_err-put-2.ensures.bytes))

pub returns-in_err-put_value-clause-bytes : goal.returns-in_err-put_value-clause-bytes
returns-in_err-put_value-clause-bytes g c = as_text _ _ _ _ _ _ _ (line_is c.args.answer.now c.args.at c.name.result.now c.requires.answer c.name.ensures.name) (go_on _ _ _ _ c.in_ok-put.ensures.bytes (go_on _ _ _ _ c.in_ok-put-2.ensures.bytes (cut c.from_residual-in_err-put_value.result c.from_residual-in_err-put_value.ensures.0 _ _ _ _ _ _ c.in_err-put_value.ensures.bytes)))

pub returns-in_err-put-3-clause-bytes : goal.returns-in_err-put-3-clause-bytes
returns-in_err-put-3-clause-bytes g c = as_text _ _ _ _ _ _ _ (line_is c.args.answer.now c.args.at c.name.result.now c.requires.answer c.name.ensures.name) (go_on _ _ _ _ c.in_ok-put.ensures.bytes (go_on _ _ _ _ c.in_ok-put-2.ensures.bytes (go_on _ _ _ _ c.in_ok-put_value.ensures.bytes (cut c.from_residual-in_err-put-3.result c.from_residual-in_err-put-3.ensures.0 _ _ _ _ _ _ c.in_err-put-3.ensures.bytes))))

pub returns-in_err-put_digits-clause-bytes : goal.returns-in_err-put_digits-clause-bytes
returns-in_err-put_digits-clause-bytes g c = as_text _ _ _ _ _ _ _ (line_is c.args.answer.now c.args.at c.name.result.now c.requires.answer c.name.ensures.name) (go_on _ _ _ _ c.in_ok-put.ensures.bytes (go_on _ _ _ _ c.in_ok-put-2.ensures.bytes (go_on _ _ _ _ c.in_ok-put_value.ensures.bytes (go_on _ _ _ _ c.in_ok-put-3.ensures.bytes (cut c.from_residual-in_err-put_digits.result c.from_residual-in_err-put_digits.ensures.0 _ _ _ _ _ _ c.in_err-put_digits.ensures.bytes)))))

pub returns-clause-bytes : goal.returns-clause-bytes
returns-clause-bytes g c = as_text _ _ _ _ _ _ _ (line_is c.args.answer.now c.args.at c.name.result.now c.requires.answer c.name.ensures.name) (go_on _ _ _ _ c.in_ok-put.ensures.bytes (go_on _ _ _ _ c.in_ok-put-2.ensures.bytes (go_on _ _ _ _ c.in_ok-put_value.ensures.bytes (go_on _ _ _ _ c.in_ok-put-3.ensures.bytes (go_on _ _ _ _ c.in_ok-put_digits.ensures.bytes c.put-4.ensures.bytes)))))
