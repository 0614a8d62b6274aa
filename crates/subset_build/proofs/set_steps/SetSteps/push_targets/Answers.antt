use Rattle.std.proofs.Common.{arith, ◌<◌, ap}
use Rattle.subset_build.specs.Subsets.{Forgetting}
use Rattle.subset_build.proofs.Targets.{pushed_more}
use Rattle.subset_build.proofs.set_steps.SetSteps.push_targets.Goals as goal

pub loop-digit-preserved : goal.loop-digit-preserved
loop-digit-preserved g c =
    let digit : c.loop-digit.digit < c.args.self.now.moves.base = omega (arith, c.loop-digit-test.true, c.radix-digit-end.ensures.value, ap (λ (f : Forgetting). f.moves.base) c.self.view_is) in
    pushed_more c.args.self.now.moves c.args.self.now.track c.args.letter c.args.state c.args.over.first c.args.over.stride c.loop-digit.digit c.letter.result c.target.result c.args.into.now.items c.loop-digit.into.items c.push.new.self.items c.requires.over digit c.loop-digit.invariant c.in-Ok.ensures.ok c.letter.ensures c.target.ensures
