use Rattle.std.proofs.Common.{arith, ◌+◌, ◌<◌, sym, subst}
use Rattle.subset_build.specs.Closing.{IsFollowing}
use Rattle.subset_build.proofs.Closings.{met_target}
use Rattle.subset_build.proofs.closure.meet_targets.Goals as goal

pub loop-digit-preserved : goal.loop-digit-preserved
loop-digit-preserved g c =
    let t = c.args.signed.now.table.now.table in
    let digit : c.loop-digit.digit < t.base = omega (arith, c.loop-digit-test.true, c.radix-digit-end.ensures.value, c.base.ensures) in
    subst (IsFollowing t c.args.signed.now.track c.args.signed.now.sign c.args.at c.state-state.result (c.loop-digit.digit + 1)) (sym c.in-Ok.ensures.met)
    (met_target t c.args.signed.now.track c.args.signed.now.sign c.args.at c.state-state.result c.args.signed.now.letters.first c.args.signed.now.letters.stride c.loop-digit.digit c.letter.result c.int_step.result c.loop-digit.marks c.requires.letters digit c.loop-digit.invariant c.letter.ensures c.int_step.ensures.below c.int_step.ensures.value)
