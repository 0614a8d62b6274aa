use Rattle.std.proofs.Common.{◌≡◌}
use Rattle.lash_model.specs.Tables.{fracs}
use Rattle.weak_forms.specs.Marking.{AreColoured}
use Rattle.weak_forms.proofs.marks.coloured_by_parts.Given as goal

abbrev pub invariant-loop-state : goal.invariant-loop-state
invariant-loop-state l = (l.state-end ≡ fracs l.initial.table.table) × AreColoured l.initial.table.table l.parts l.marks l.state l.table.table
