use Rattle.std.proofs.Common.{rules, ◌≡◌, length, subst}
use Rattle.linear_atoms.specs.Closing.{IsStarting}
use Rattle.linear_atoms.proofs.Searching.{closing_none}
use Rattle.linear_atoms.proofs.thresholds.close.Goals as goal

pub loop-at-preserved : goal.loop-at-preserved
loop-at-preserved c = record {
  small = c.in-Ok.ensures.small;
  within = c.in-Ok.ensures.within;
  starting = c.in-Ok.ensures.starting c.args.base c.args.totals.now c.loop-at.invariant.starting;
}

pub lower_all-requires-clause-started : goal.lower_all-requires-clause-started
lower_all-requires-clause-started c =
    let done : c.loop-at.at ≡ length c.args.seeds.now = search rules in
    closing_none c.args.base c.args.totals.now c.args.seeds.now c.loop-at.found.keys (subst (λ n. IsStarting c.args.base c.args.totals.now c.args.seeds.now c.loop-at.found.keys n) done c.loop-at.invariant.starting)
