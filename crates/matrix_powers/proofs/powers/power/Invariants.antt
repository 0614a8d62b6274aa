use Rattle.matrix_powers.proofs.Searching.{IsSearching}
use Rattle.matrix_powers.proofs.powers.power.Given as goal

abbrev pub invariant-loop-before : goal.invariant-loop-before
invariant-loop-before l = IsSearching l.matrix l.before l.powers.items
