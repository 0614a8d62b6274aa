use Rattle.std.proofs.Common.{◌^◌, ◌*◌, ◌+◌, ◌<◌, length, sym, subst}
use Rattle.subset_build.specs.Subsets.{Forgetting}
use Rattle.subset_build.proofs.Targets.{move_in}
use Rattle.subset_build.proofs.set_steps.SetSteps.target.Goals as goal

pub get-requires : goal.get-requires
get-requires g c =
    let rows = g.C.Cells.items c.self.inside.rows.now in
    let state : c.args.state < c.self.inside.states = subst (λ (f : Forgetting). c.args.state < f.moves.states) (sym c.self.view_is) c.requires.state in
    let letter : c.args.letter < c.self.inside.base ^ c.self.inside.tracks = subst (λ (f : Forgetting). c.args.letter < f.moves.base ^ f.moves.tracks) (sym c.self.view_is) c.requires.letter in
    subst (λ n. c.args.state * n + c.args.letter < length rows) (sym c.self.invariant.letters_are)
    (move_in (record { base = c.self.inside.base; tracks = c.self.inside.tracks; rows = rows; states = c.self.inside.states }) c.args.state c.args.letter c.self.invariant.moves state letter)
