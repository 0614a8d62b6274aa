use Rattle.std.proofs.Common.{length}
use Rattle.components.specs.Rankings.{AreLifting}
use Rattle.components.proofs.ranking.lifted_parts.Given as goal

abbrev pub invariant-loop-state : goal.invariant-loop-state
invariant-loop-state l = AreLifting (length l.colours) l.rows l.letters l.colours l.parts l.ranks.items l.state-index
