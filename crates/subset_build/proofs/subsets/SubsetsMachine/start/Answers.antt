use Rattle.std.proofs.Common.{arith, ◌≡◌, ◌<◌, ◌∙◌, [], ap, sym, subst, length, true}
use Rattle.std.proofs.lemmas.Result.{on_ok_weaker}
use Rattle.std.specs.Prelude.{IsTrue}
use Rattle.graph_laws.specs.Exploring.{list_at}
use Rattle.subset_build.specs.Projection.{is_rising_in}
use Rattle.subset_build.specs.Subsets.{Projected}
use Rattle.subset_build.proofs.subsets.SubsetsMachine.start.Goals as goal

pub overflow_cast-at : goal.overflow_cast-at
overflow_cast-at g c = omega (arith, c.requires, c.self.invariant.few, ap (λ (v : Projected). length v.sets) c.self.view_is)

pub returns-clause-proper : goal.returns-clause-proper
returns-clause-proper g c =
    let at : c.args.at < length c.self.inside.starts.now = subst (λ (v : Projected). c.args.at < length v.sets) (sym c.self.view_is) c.requires in
    let proper : is_rising_in 0 c.self.inside.steps.moves.states (list_at c.self.inside.starts.now c.args.at) ≡ true = c.self.invariant.proper c.args.at [] at in
    on_ok_weaker c.copy_set.result (λ e. subst (λ (v : Projected). IsTrue (is_rising_in 0 v.moves.states c.copy_set.new.into.items)) c.self.view_is (subst (λ xs. is_rising_in 0 c.self.inside.steps.moves.states xs ≡ true) (sym (e ∙ c.set.ensures)) proper)) c.copy_set.ensures
