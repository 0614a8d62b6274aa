use Rattle.std.proofs.Common.{◌≡◌, ◌∙◌, ap, subst, sym, length, drop, eqb, ℕ, IsPermutation}
use Rattle.std.specs.Prelude.{Contains}
use Rattle.std.specs.List.{dedup}
use Rattle.std.proofs.lemmas.List.{take_at}
use Rattle.subset_build.specs.Projection.{IsRisingSet}
use Rattle.subset_build.proofs.RisingSets.{sorted_set}
use Rattle.subset_build.proofs.set_steps.put_in_order.Goals as goal

pub returns : goal.returns
returns c =
    let count : length c.sort_unstable.new.self ≡ length c.args.list.now.items = c.sort_unstable.ensures.len ∙ ap (λ xs. length xs) c.as_mut_slice.ensures.value in
    subst (IsRisingSet (Contains c.args.list.now.items)) (sym (c.dedup.ensures.items ∙ ap (dedup eqb) (take_at c.sort_unstable.new.self (drop (length c.sort_unstable.new.self) c.args.list.now.items) (length c.args.list.now.items) count)))
    (sorted_set c.args.list.now.items c.sort_unstable.new.self (subst (λ xs. IsPermutation {X = ℕ} xs c.sort_unstable.new.self) c.as_mut_slice.ensures.value c.sort_unstable.ensures.permutation) c.sort_unstable.ensures.sorted)
