use Rattle.loop_closure.specs.Builders.{stage_places, stage_term}
use Rattle.loop_closure.specs.Filling.{IsListing}
use Rattle.loop_closure.proofs.terms.terms.Given as goal

abbrev pub invariant-loop-row : goal.invariant-loop-row
invariant-loop-row l = IsListing (stage_term l.builder l.stage) (stage_places l.stage) l.row l.terms.items
