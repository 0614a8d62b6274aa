use Rattle.lash_model.proofs.Points.{numerator_is_gain, denominator_is_gap}
use Rattle.lash_model.proofs.lassos_are_differences.Goals as goal

pub returns-clause-numerator : goal.returns-clause-numerator
returns-clause-numerator c = numerator_is_gain

pub returns-clause-denominator : goal.returns-clause-denominator
returns-clause-denominator c = denominator_is_gap
