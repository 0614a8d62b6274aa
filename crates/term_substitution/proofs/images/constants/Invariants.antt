use Rattle.std.proofs.Common.{drop}
use Rattle.term_substitution.proofs.Summing.{IsSumming}
use Rattle.term_substitution.proofs.images.constants.Given as goal

abbrev pub invariant-loop-variable : goal.invariant-loop-variable
invariant-loop-variable l = IsSumming l.terms l.variables (drop l.variable-index l.variables) l.sum
