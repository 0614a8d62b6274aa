use Rattle.std.proofs.Common.{ℕ, ◌<◌, slice_index}
use Rattle.solution_pick.specs.FractionSearches.{IsDead}
use Rattle.solution_pick.proofs.scans.first_live.Given as goal

abbrev pub invariant-loop-state : goal.invariant-loop-state
invariant-loop-state l = (p : ℕ) → p < l.state → IsDead l.table.table (slice_index l.table.table.outs p)
