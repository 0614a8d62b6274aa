-- What was pending was sent, and then the digits.
use Rattle.set_answers.proofs.Sending.{sent_then, not_sent}
use Rattle.set_answers.proofs.lines.put_digits.Goals as goal

pub returns-clause-bytes : goal.returns-clause-bytes
returns-clause-bytes g c = sent_then _ _ _ _ _ _ _ c.in_ok-flush.ensures.bytes c.in_ok-flush.ensures.empty c.digits_text.ensures.text

pub returns-in_err-flush-clause-bytes : goal.returns-in_err-flush-clause-bytes
returns-in_err-flush-clause-bytes g c =
    not_sent c.from_residual.result c.from_residual.ensures.0 _ _ _ _ _ c.in_err-flush.ensures.bytes c.in_err-flush.ensures.empty
