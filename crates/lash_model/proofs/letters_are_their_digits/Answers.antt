use Rattle.lash_model.proofs.Digits.{digits_are, number-digits, digits-number}
use Rattle.lash_model.proofs.letters_are_their_digits.Goals as goal

pub returns-clause-digits : goal.returns-clause-digits
returns-clause-digits c = λ r n l h k. (digits_are r n l h k, number-digits r n l h k)

pub returns-clause-unique : goal.returns-clause-unique
returns-clause-unique c = digits-number
