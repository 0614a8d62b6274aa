use Rattle.std.proofs.Common.{subst, sym, ◌<◌, length, true, false}
use Rattle.std.specs.Prelude.{slice_set}
use Rattle.subset_build.specs.Closing.{Marking, IsMarking}
use Rattle.subset_build.proofs.Closings.{marking_more, mark_at}
use Rattle.subset_build.proofs.marks.Marks.meet.Goals as goal

pub invariant_of-self-2 : goal.invariant_of-self-2
invariant_of-self-2 c =
    let inside : c.args.state < length c.self.inside.marked.items = subst (λ (m : Marking). c.args.state < length m.marked) (sym c.self.view_is) c.requires in
    subst (λ xs. IsMarking (record { marked = slice_set c.self.inside.marked.items c.args.state true; states = xs })) (sym c.in-Ok.ensures.items)
    (marking_more c.self.inside.marked.items c.self.inside.states.items c.args.state c.self.invariant (mark_at c.self.inside.marked.items c.args.state c.index.result.now false inside c.index.ensures c.if-index.false) inside)
