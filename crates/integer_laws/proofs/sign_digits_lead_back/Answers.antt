use Rattle.integer_laws.proofs.Reading.{idle_sign}
use Rattle.integer_laws.proofs.sign_digits_lead_back.Goals as goal

pub returns : goal.returns
returns c = idle_sign
