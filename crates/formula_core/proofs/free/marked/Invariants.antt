use Rattle.std.proofs.Common.{◌≡◌, get_or, false}
use Rattle.std.specs.List.{filter, range_with_len}
use Rattle.formula_core.proofs.free.marked.Given as goal

abbrev pub invariant-loop-place : goal.invariant-loop-place
invariant-loop-place l = l.places.items ≡ filter (λ place. get_or l.marks place false) (range_with_len 0 l.place)
