use Rattle.std.proofs.Common.{◌+◌, subst, sym, refl}
use Rattle.components.specs.Partings.{MarksLoops}
use Rattle.components.proofs.Marking.{marks_skip, marks_more}
use Rattle.components.proofs.parts.loops_of.Goals as goal
use Rattle.components.proofs.parts.loops_of.Goals.{then-steps_inside, else-steps_inside}

pub loop-state-preserved : goal.loop-state-preserved
loop-state-preserved c =
    elim c.if-steps_inside.branch [
      | then-steps_inside w ↦ subst (λ v. MarksLoops c.args.rows.now c.args.letters c.args.numbers.now c.args.count (c.loop-state.state + 1) v.items)
          (sym w.looping-is)
          (marks_more c.args.rows.now c.args.letters c.args.numbers.now c.args.count c.loop-state.state _ c.loop-state.looping.items refl
          (c.requires.numbers c.loop-state.state 0 c.loop-state-test.true) (c.steps_inside.ensures.has w.if-steps_inside.true) c.loop-state.invariant)
      | else-steps_inside w ↦ subst (λ v. MarksLoops c.args.rows.now c.args.letters c.args.numbers.now c.args.count (c.loop-state.state + 1) v.items)
          (sym w.looping-is)
          (marks_skip c.args.rows.now c.args.letters c.args.numbers.now c.args.count c.loop-state.state c.loop-state.looping.items
          (λ inner. c.steps_inside.ensures.none w.if-steps_inside.false inner.0 inner.1 inner.2) c.loop-state.invariant)
    ]
