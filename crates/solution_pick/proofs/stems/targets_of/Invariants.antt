use Rattle.solution_pick.specs.FractionSearches.{AreTargets}
use Rattle.solution_pick.proofs.stems.targets_of.Given as goal

abbrev pub invariant-loop-letter : goal.invariant-loop-letter
invariant-loop-letter l = AreTargets l.table.table l.state l.letter l.targets.items
