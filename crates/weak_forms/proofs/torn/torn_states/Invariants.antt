use Rattle.std.proofs.Common.{◌≡◌}
use Rattle.lash_model.specs.Tables.{fracs}
use Rattle.weak_forms.specs.Marking.{TellTorn}
use Rattle.weak_forms.proofs.torn.torn_states.Given as goal

abbrev pub invariant-loop-state : goal.invariant-loop-state
invariant-loop-state l = (l.state-end ≡ fracs l.table.table) × TellTorn l.table.table l.state l.goals.items
