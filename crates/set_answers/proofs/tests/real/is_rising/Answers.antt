use Rattle.std.proofs.Common.{arith, ◌≡◌, ◌<◌}
use Rattle.lash_model.specs.Tables.{fracs}
use Rattle.product_ops.proofs.TestTables.{rising_weak}
use Rattle.set_answers.proofs.tests.real.is_rising.Goals as goal

pub returns : goal.returns
returns c = λ _.
    let end : c.loop-state.state ≡ fracs c.args.table.now.table = omega
    (arith, c.loop-state-test.false, c.loop-state.auto.state-end, c.fracs-state-end.ensures) in
    let some : 0 < fracs c.args.table.now.table = omega (arith, c.if-fracs-eq0.false, c.fracs.ensures) in
    rising_weak c.args.table.now.table c.letters-letters.ensures.table some (λ q l q_in l_in. c.loop-state.invariant q l (omega (arith, q_in, end)) l_in)
