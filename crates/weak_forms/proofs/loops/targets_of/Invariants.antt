use Rattle.std.proofs.Common.{◌≡◌, ◌*◌, ◌<◌, All}
use Rattle.lash_model.specs.Tables.{letters, fracs}
use Rattle.weak_forms.specs.Words.{AreTargets}
use Rattle.weak_forms.proofs.loops.targets_of.Given as goal

abbrev pub invariant-loop-letter : goal.invariant-loop-letter
invariant-loop-letter l = (l.width ≡ letters l.table.table) × AreTargets l.rows (letters l.table.table) l.state l.letter l.targets.items
    × All (λ q. q < 2 * fracs l.table.table) l.targets.items
