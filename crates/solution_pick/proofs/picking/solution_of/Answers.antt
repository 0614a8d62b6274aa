-- The least path to the first state whose output is yes is the least accepted word, and the lasso is made of it.
use Rattle.std.proofs.Common.{ℕ, List, sym, subst}
use Rattle.lash_model.specs.Lassos.{Lasso, IsLasso}
use Rattle.solution_pick.specs.Solutions.{IsLeastAccepted}
use Rattle.solution_pick.proofs.Accepted.{least_accepted, in_range}
use Rattle.solution_pick.proofs.picking.solution_of.Goals as goal

pub returns-in-Ok-lasso-clause-least : goal.returns-in-Ok-lasso-clause-least
returns-in-Ok-lasso-clause-least c =
    let table = c.args.table.now.table in
    let trail = c.in-Ok.trail in
    let made : IsLeastAccepted table trail.start trail.letters.items =
    least_accepted table c.requires c.in-Some.state trail.start trail.letters.items c.in-Some.ensures.some c.in-Ok.ensures in
    subst (λ (x : Lasso). IsLeastAccepted table x.sign x.whole) (sym c.in-Ok-lasso.ensures)
    (subst (λ (w : List ℕ). IsLeastAccepted table trail.start w) (sym c.as_slice.ensures.value) made)

pub returns-in-Ok-lasso-clause-range : goal.returns-in-Ok-lasso-clause-range
returns-in-Ok-lasso-clause-range c =
    let table = c.args.table.now.table in
    let trail = c.in-Ok.trail in
    let made : IsLeastAccepted table trail.start trail.letters.items =
    least_accepted table c.requires c.in-Some.state trail.start trail.letters.items c.in-Some.ensures.some c.in-Ok.ensures in
    subst (IsLasso table.base table.tracks) (sym c.in-Ok-lasso.ensures)
    (in_range table c.requires.table trail.start c.as_slice.result.now
    (subst (λ (w : List ℕ). IsLeastAccepted table trail.start w) (sym c.as_slice.ensures.value) made))
