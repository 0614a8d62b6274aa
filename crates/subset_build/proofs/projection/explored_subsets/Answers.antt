use Rattle.std.proofs.Common.{arith, ap, length}
use Rattle.subset_build.specs.Subsets.{Projected}
use Rattle.subset_build.proofs.Closings.{few_kept_signs}
use Rattle.subset_build.proofs.projection.explored_subsets.Goals as goal

pub explore-requires-clause-starts : goal.explore-requires-clause-starts
explore-requires-clause-starts g c = omega (arith, few_kept_signs c.args.table.now.table c.letters-letters.ensures.table, c.requires.starts.count, ap (λ (v : Projected). length v.sets) c.new-subsets.ensures)
