use Rattle.breakpoint_laws.proofs.HeavyKeys.{not_heavy_with_keys}
use Rattle.breakpoint_build.proofs.RealForms.{one_projection, one_words, not_both}
use Rattle.breakpoint_build.proofs.laws.heavy_or_projected.Goals as goal

pub returns-clause-projected : goal.returns-clause-projected
returns-clause-projected c = λ t u track limit heavy p. not_heavy_with_keys t p.marked track limit heavy p.breakpoints

pub returns-clause-torn : goal.returns-clause-torn
returns-clause-torn c = λ t track limit sign whole stem accept reject heavy p. not_heavy_with_keys t p.marked track limit heavy p.breakpoints

pub returns-clause-weak : goal.returns-clause-weak
returns-clause-weak c = not_both

pub returns-clause-one : goal.returns-clause-one
returns-clause-one c = one_projection

pub returns-clause-words : goal.returns-clause-words
returns-clause-words c = one_words
