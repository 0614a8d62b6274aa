use Rattle.std.proofs.Common.{◌≡◌}
use Rattle.std.specs.Prelude.{filter}
use Rattle.std.specs.List.{range_with_len}
use Rattle.subset_build.specs.Closing.{is_marked}
use Rattle.subset_build.proofs.marks.Marks.rising.Given as goal

abbrev pub invariant-loop-state : goal.invariant-loop-state
invariant-loop-state l = l.rising.items ≡ filter (is_marked l.self) (range_with_len 0 l.state)
