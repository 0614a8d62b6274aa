use Rattle.std.proofs.Common.{map}
use Rattle.subset_build.specs.Closing.{AreSetsUpto}
use Rattle.subset_build.proofs.closure.sign_closure.Given as goal

abbrev pub invariant-loop-sign : goal.invariant-loop-sign
invariant-loop-sign g l = AreSetsUpto l.table.table l.track l.sign (map (λ v. v.items) l.sets.items) l.marks
