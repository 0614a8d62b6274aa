use Rattle.std.proofs.Common.{◌≡◌, ◌≤◌, ◌+◌, ◌^◌, drop}
use Rattle.lash_model.specs.Formulas.{coefficient_sum}
use Rattle.term_substitution.proofs.judging.great_coefficients.Given as goal

abbrev pub invariant-loop-term : goal.invariant-loop-term
invariant-loop-term l = (l.sum + coefficient_sum (drop l.term-index l.term-items) ≡ coefficient_sum l.term-items) × (l.sum ≤ 2 ^ 24)
