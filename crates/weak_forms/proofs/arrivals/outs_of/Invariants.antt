use Rattle.std.proofs.Common.{◌≡◌, ◌<◌, All, length}
use Rattle.lash_model.specs.Tables.{fracs}
use Rattle.weak_forms.specs.Words.{AreOuts}
use Rattle.weak_forms.proofs.arrivals.outs_of.Given as goal

abbrev pub invariant-loop-at : goal.invariant-loop-at
invariant-loop-at l = (l.at-end ≡ length l.found.order) × AreOuts l.table.table l.found.order l.outs.items l.at × All (λ q. q < fracs l.table.table) l.outs.items
