use Rattle.std.proofs.Common.{rules}
use Rattle.linear_atoms.proofs.thresholds.lower_all.Goals as goal

pub loop-at-preserved : goal.loop-at-preserved
loop-at-preserved c = record {
  small = c.in-Ok.ensures.small;
  within = c.in-Ok.ensures.within;
  closing = c.in-Ok.ensures.closing c.args.seeds.now c.loop-at.invariant.closing;
}
