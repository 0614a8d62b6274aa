use Rattle.std.proofs.Common.{sym, ap, ◌∙◌, ◌^◌}
use Rattle.product_ops.specs.Pairs.{Operands}
use Rattle.product_ops.proofs.PairRuns.{starts_count}
use Rattle.product_ops.proofs.pairs.PairsMachine.starts.Goals as goal

pub returns : goal.returns
returns g c = c.self.invariant.signs_are ∙ ap (λ (v : Operands). 2 ^ v.left.tracks) c.self.view_is ∙ sym (starts_count c.args.self.now.left c.args.self.now.right)
