use Rattle.std.proofs.Common.{sym, ap, ap₂, subst, ◌≡◌, ◌∙◌, ◌^◌, ◌<◌, OnOk}
use Rattle.product_ops.specs.Pairs.{Operands, pair, root_by}
use Rattle.product_ops.proofs.PairRuns.{starts_count, start_pair}
use Rattle.product_ops.proofs.pairs.PairsMachine.start.Goals as goal

pub root-requires : goal.root-requires
root-requires g c = subst (λ (v : Operands). c.args.at < 2 ^ v.left.tracks) (sym c.self.view_is) (subst (λ n. c.args.at < n) (starts_count c.args.self.now.left c.args.self.now.right) c.requires)

pub root-requires-2 : goal.root-requires-2
root-requires-2 g c = subst (λ n. c.args.at < 2 ^ n) c.self.invariant.operands.one_count (subst (λ (v : Operands). c.args.at < 2 ^ v.left.tracks) (sym c.self.view_is) (subst (λ n. c.args.at < n) (starts_count c.args.self.now.left c.args.self.now.right) c.requires))

pub returns-clause-key : goal.returns-clause-key
returns-clause-key g c =
    subst (λ k. OnOk c.write_pair.result (c.write_pair.new.into.items ≡ k))
    (ap₂ pair c.root.ensures.value c.root-2.ensures.value
    ∙ ap (λ (v : Operands). pair (root_by v.left c.args.at) (root_by v.right c.args.at)) c.self.view_is
    ∙ sym (start_pair c.args.self.now.left c.args.self.now.right c.args.at (subst (λ n. c.args.at < n) (starts_count c.args.self.now.left c.args.self.now.right) c.requires)))
    c.write_pair.ensures
