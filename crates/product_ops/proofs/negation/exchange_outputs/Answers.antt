use Rattle.std.proofs.Common.{arith, ◌≡◌, ◌-◌, ◌<◌, ◌∙◌, ap, length}
use Rattle.product_ops.proofs.Exchanging.{one_changed, all_kept}
use Rattle.product_ops.proofs.negation.exchange_outputs.Goals as goal

pub loop-state-preserved : goal.loop-state-preserved
loop-state-preserved g c =
    let inside : c.loop-state.state < length c.args.table.now.table.outs = omega (arith, c.loop-state-test.true, c.ints-state-end.ensures) in
    record {
      changed = c.set_out.ensures.changed ∙ one_changed c.args.table.now c.loop-state.table c.loop-state.state (1 - c.out.result) c.loop-state.invariant.changed inside (ap (λ x. 1 - x) c.out.ensures.value);
      valid = c.set_out.ensures.table;
    }

pub returns-clause-changed : goal.returns-clause-changed
returns-clause-changed g c =
    let end : c.loop-state.state ≡ length c.args.table.now.table.outs = omega (arith, c.loop-state-test.false, c.loop-state.auto.state-end, c.ints-state-end.ensures) in
    all_kept c.args.table.now c.loop-state.table c.loop-state.state c.loop-state.invariant.changed end
