use Rattle.std.proofs.Common.{arith, ◌≡◌, ◌∙◌, ◌++◌, ◌∷◌, [], ◌<◌, ap, sym, subst, length, Bool, true, false}
use Rattle.subset_build.specs.Closing.{Marking, is_marked}
use Rattle.subset_build.proofs.Closings.{mark_at}
use Rattle.subset_build.proofs.RisingSets.{filter_yes, filter_no}
use Rattle.subset_build.proofs.marks.Marks.rising.Goals as goal
use Rattle.subset_build.proofs.marks.Marks.rising.Goals.{then-index+in-Ok, else-index}

pub loop-state-preserved : goal.loop-state-preserved
loop-state-preserved c =
    let within : c.loop-state.state < length c.args.self.now.marked = omega (arith, c.loop-state-test.true, c.requires) in
    let inside : c.loop-state.state < length c.self.inside.marked.items = subst (λ (m : Marking). c.loop-state.state < length m.marked) (sym c.self.view_is) within in
    let mark = λ (b : Bool) (e : c.index.result.now ≡ b). subst (λ (m : Marking). is_marked m c.loop-state.state ≡ b) c.self.view_is (mark_at c.self.inside.marked.items c.loop-state.state c.index.result.now b inside c.index.ensures e) in
    elim c.if-index.branch [
      | then-index+in-Ok w ↦ ap (λ v. v.items) w.rising-is ∙ w.in-Ok.ensures.items ∙ ap (λ xs. xs ++ c.loop-state.state ∷ []) c.loop-state.invariant ∙ sym (filter_yes (is_marked c.args.self.now) c.loop-state.state (mark true w.if-index.true))
      | else-index w ↦ ap (λ v. v.items) w.rising-is ∙ c.loop-state.invariant ∙ sym (filter_no (is_marked c.args.self.now) c.loop-state.state (mark false w.if-index.false))
    ]
