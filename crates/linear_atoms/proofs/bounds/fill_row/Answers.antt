use Rattle.std.proofs.Common.{rules, ◌≡◌, ◌<◌, ◌+◌, ◌*◌, length, subst, sym}
use Rattle.lash_model.specs.Tables.{IsTable}
use Rattle.linear_atoms.specs.Kinds.{comparison_of}
use Rattle.linear_atoms.specs.Closing.{entry}
use Rattle.linear_atoms.specs.Bounds.{bound_target, AreBoundsFilled}
use Rattle.linear_atoms.proofs.BoundFilling.{filling_bound}
use Rattle.linear_atoms.proofs.bounds.fill_row.Goals as goal

pub loop-letter-preserved : goal.loop-letter-preserved
loop-letter-preserved c =
    let inside : c.loop-letter.letter < length c.args.plan.now.totals.now = search rules in
    let is : c.target.result ≡ bound_target (comparison_of c.args.plan.now.kind) c.args.plan.now.atom.now.terms c.args.plan.now.base c.args.state (entry c.args.plan.now.totals.now c.loop-letter.letter) = search rules in
    subst (λ k. AreBoundsFilled (comparison_of c.args.plan.now.kind) c.args.plan.now.atom.now c.args.plan.now.base c.args.plan.now.tracks c.args.plan.now.totals.now c.args.plan.now.thresholds.now (length c.args.plan.now.thresholds.now + 1) (c.args.state * length c.args.plan.now.totals.now + (c.loop-letter.letter + 1)) 0 k) (sym c.set_frac.ensures.changed)
    (filling_bound (comparison_of c.args.plan.now.kind) c.args.plan.now.atom.now c.args.plan.now.base c.args.plan.now.tracks c.args.plan.now.totals.now c.args.plan.now.thresholds.now (length c.args.plan.now.thresholds.now + 1) c.args.state c.loop-letter.letter c.target.result c.loop-letter.table c.loop-letter.invariant (subst (λ k. IsTable k.table) c.set_frac.ensures.changed c.set_frac.ensures.table) c.requires.state inside c.requires.plan.plan.totals_count is)
