use Rattle.components.specs.Partings.{MarksLoops}
use Rattle.components.proofs.parts.loops_of.Given as goal

abbrev pub invariant-loop-state : goal.invariant-loop-state
invariant-loop-state l = MarksLoops l.rows l.letters l.numbers l.count l.state l.looping.items
