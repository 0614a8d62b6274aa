use Rattle.std.proofs.Common.{arith}
use Rattle.linear_atoms.proofs.FillingSteps.{few_signs}
use Rattle.linear_atoms.proofs.filling.fill_roots.Goals as goal

pub pow-sign-end-requires : goal.pow-sign-end-requires
pow-sign-end-requires c = omega (arith, few_signs c.args.plan.now.base c.args.plan.now.tracks c.requires.plan.low c.requires.plan.few_letters)
