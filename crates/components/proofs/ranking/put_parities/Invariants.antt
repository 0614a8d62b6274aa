use Rattle.components.specs.Rankings.{ArePut}
use Rattle.components.proofs.ranking.put_parities.Given as goal

abbrev pub invariant-loop-at : goal.invariant-loop-at
invariant-loop-at l = ArePut l.initial.ranks.items l.at l.ranks.items
