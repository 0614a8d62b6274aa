use Rattle.components.specs.Rankings.{IsRisen}
use Rattle.components.proofs.ranking.risen.Given as goal

abbrev pub invariant-loop-letter : goal.invariant-loop-letter
invariant-loop-letter l = IsRisen l.rows l.letters l.colours l.parts l.ranks l.state l.letter l.best
