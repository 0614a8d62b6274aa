use Rattle.weak_forms.specs.Marking.{TellMarks}
use Rattle.weak_forms.proofs.marks.marked_parts.Given as goal

abbrev pub invariant-loop-state : goal.invariant-loop-state
invariant-loop-state l = TellMarks l.table.table l.parts l.state l.marks.items
