use Rattle.std.proofs.Common.{rules, ◌<◌, ◌+◌, ◌*◌, ◌^◌, sym, subst}
use Rattle.lash_model.specs.Tables.{IsTable}
use Rattle.linear_atoms.specs.Whole.{AreWholeSteps}
use Rattle.linear_atoms.proofs.WholeFilling.{whole_row}
use Rattle.linear_atoms.proofs.whole.fill_row.Goals as goal

pub loop-letter-preserved : goal.loop-letter-preserved
loop-letter-preserved c =
    let inside : c.loop-letter.letter < c.args.base ^ 1 = search rules in
    subst (λ k. AreWholeSteps c.args.base (c.args.state * c.args.base ^ 1 + (c.loop-letter.letter + 1)) k) (sym c.set_frac.ensures.changed)
    (whole_row c.args.base c.args.state c.loop-letter.letter c.next_state.result c.loop-letter.table c.loop-letter.invariant
    (subst (λ k. IsTable k.table) c.set_frac.ensures.changed c.set_frac.ensures.table) c.requires.state inside (search rules))
