use Rattle.std.proofs.Common.{◌≡◌, false, take, nat_eq}
use Rattle.std.specs.Prelude.{slice_index}
use Rattle.std.specs.List.{list_any}
use Rattle.subset_build.proofs.outputs.has_yes.Given as goal

abbrev pub invariant-loop-state : goal.invariant-loop-state
invariant-loop-state g l = list_any (λ q. nat_eq (slice_index l.table.table.outs q) 1) (take l.state-index l.set) ≡ false
