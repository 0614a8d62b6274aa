use Rattle.std.proofs.Common.{rules, ◌≡◌, ◌<◌, ◌+◌, ◌*◌, ◌^◌, length, subst, sym}
use Rattle.lash_model.specs.Tables.{IsTable}
use Rattle.linear_atoms.specs.Filling.{AreStepsFilled}
use Rattle.linear_atoms.proofs.FillingSteps.{filling_row}
use Rattle.linear_atoms.proofs.filling.fill_row.Goals as goal

pub loop-letter-preserved : goal.loop-letter-preserved
loop-letter-preserved c =
    let inside : c.loop-letter.letter < length c.args.plan.now.totals.now = search rules in
    subst (λ k. AreStepsFilled c.args.plan.now.atom.now c.args.plan.now.base c.args.plan.now.tracks c.args.plan.now.totals.now c.args.plan.now.thresholds.now c.args.plan.now.fracs (2 ^ c.args.plan.now.tracks) (c.args.state * length c.args.plan.now.totals.now + (c.loop-letter.letter + 1)) k) (sym c.set_int.ensures.changed)
    (filling_row c.args.plan.now.atom.now c.args.plan.now.base c.args.plan.now.tracks c.args.plan.now.totals.now c.args.plan.now.thresholds.now c.args.plan.now.fracs (2 ^ c.args.plan.now.tracks) c.args.state c.loop-letter.letter c.target.result c.loop-letter.table c.loop-letter.invariant (subst (λ k. IsTable k.table) c.set_int.ensures.changed c.set_int.ensures.table) c.requires.state inside c.requires.plan.totals_count c.target.ensures.value)
