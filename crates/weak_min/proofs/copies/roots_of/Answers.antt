use Rattle.std.proofs.Common.{arith, ap, ◌^◌}
use Rattle.weak_min.proofs.ClassRuns.{few_signs}
use Rattle.weak_min.proofs.copies.roots_of.Goals as goal

pub pow-signs-requires : goal.pow-signs-requires
pow-signs-requires g c = omega (arith, few_signs c.args.table.now.table.base c.args.table.now.table.tracks c.requires.shape.base_low c.requires.shape.few_letters, ap (λ n. 2 ^ n) c.tracks.ensures)
