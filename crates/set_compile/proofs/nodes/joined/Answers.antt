use Rattle.std.proofs.Common.{subst}
use Rattle.lash_model.specs.Sets.{set_of}
use Rattle.product_ops.specs.Operations.{joined}
use Rattle.product_ops.specs.Tracks.{TrackLists}
use Rattle.set_compile.specs.Kinds.{Stands, IsShaped}
use Rattle.set_compile.proofs.Modes.{one_mode}
use Rattle.set_compile.proofs.nodes.joined.Goals as goal

pub join-requires-clause-kinds : goal.join-requires-clause-kinds
join-requires-clause-kinds c = one_mode c.args.build.now.mode c.args.left.1.now.table c.args.right.1.now.table c.requires.left_kind c.requires.right_kind

pub returns-in-Ok-join-clause-shape : goal.returns-in-Ok-join-clause-shape
returns-in-Ok-join-clause-shape c = subst (λ (k : TrackLists). IsShaped c.args.build.now.mode c.args.left.1.now.table.base k.tracks c.in-Ok-join.made.table) c.in-Ok.ensures
    (c.in-Ok-join.ensures.shape c.args.build.now.mode c.requires.left_kind)

pub returns-in-Ok-join-clause-stands : goal.returns-in-Ok-join-clause-stands
returns-in-Ok-join-clause-stands c = λ f g s u p q. subst (λ (k : TrackLists). Stands c.in-Ok-join.made.table (joined c.args.op (set_of f s) (set_of g u) k)) c.in-Ok.ensures
    (c.in-Ok-join.ensures.stands f g s u p q)
