use Rattle.std.proofs.Common.{arith}
use Rattle.std.proofs.Math.Nat.{pow-le-pow_left}
use Rattle.step_tables.proofs.table.Table+Plain.blank.Goals as goal

pub pow-requires : goal.pow-requires
pow-requires c = omega (arith, pow-le-pow_left c.requires.shape.base_low c.args.tracks, c.requires.shape.few_letters)
