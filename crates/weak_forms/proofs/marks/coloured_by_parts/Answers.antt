use Rattle.std.proofs.Common.{◌≡◌, arith, subst}
use Rattle.lash_model.specs.Tables.{fracs}
use Rattle.weak_forms.specs.Marking.{AreColoured}
use Rattle.weak_forms.proofs.NotingMarks.{weak_form}
use Rattle.weak_forms.proofs.marks.coloured_by_parts.Goals as goal

pub returns : goal.returns
returns c =
    let table = c.args.table.table in
    let kept = c.loop-state.invariant in
    let over : c.loop-state.state ≡ fracs table = omega (arith, kept.0, c.loop-state.auto.state-end, c.loop-state-test.false) in
    weak_form table c.args.parts.now c.args.marks.now c.loop-state.table.table c.requires.parts c.requires.marks
    (subst (λ n. AreColoured table c.args.parts.now c.args.marks.now n c.loop-state.table.table) over kept.1)
