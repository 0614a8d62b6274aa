use Rattle.components.specs.Rankings.{AllAgree}
use Rattle.components.proofs.ranking.is_weak.Given as goal

abbrev pub invariant-loop-at : goal.invariant-loop-at
invariant-loop-at l = AllAgree l.colours l.parts l.at
