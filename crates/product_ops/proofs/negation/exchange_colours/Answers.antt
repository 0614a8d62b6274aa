use Rattle.std.proofs.Common.{arith, ◌≡◌, ◌<◌, ◌∙◌, length}
use Rattle.product_ops.proofs.Exchanging.{one_recoloured, all_recoloured}
use Rattle.product_ops.proofs.negation.exchange_colours.Goals as goal

pub loop-state-preserved : goal.loop-state-preserved
loop-state-preserved g c =
    let inside : c.loop-state.state < length c.args.table.now.table.colours = omega (arith, c.loop-state-test.true, c.fracs-state-end.ensures) in
    record {
      changed = c.set_colour.ensures.changed ∙ one_recoloured c.args.table.now c.loop-state.table c.loop-state.state c.colour.result c.loop-state.invariant.changed inside c.letters-letters.ensures.table c.colour.ensures;
      valid = c.set_colour.ensures.table;
    }

pub returns-clause-changed : goal.returns-clause-changed
returns-clause-changed g c =
    let end : c.loop-state.state ≡ length c.args.table.now.table.colours = omega (arith, c.loop-state-test.false, c.loop-state.auto.state-end, c.fracs-state-end.ensures) in
    all_recoloured c.args.table.now c.loop-state.table c.loop-state.state c.loop-state.invariant.changed end
