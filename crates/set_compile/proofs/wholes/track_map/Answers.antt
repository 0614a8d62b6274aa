use Rattle.std.proofs.Common.{ℕ, List, sym, subst}
use Rattle.product_ops.specs.Tracks.{AreTracks}
use Rattle.set_compile.proofs.Restricting.{one_track}
use Rattle.set_compile.proofs.wholes.track_map.Goals as goal

pub new-requires-clause-left : goal.new-requires-clause-left
new-requires-clause-left c = subst (λ (xs : List ℕ). AreTracks c.args.tracks xs) (sym c.in-Ok.ensures.items) c.all_tracks.ensures.tracks

pub new-requires-clause-right : goal.new-requires-clause-right
new-requires-clause-right c = subst (λ (xs : List ℕ). AreTracks c.args.tracks xs) (sym c.in-Ok-from_slice.ensures.items) (one_track c.args.tracks c.args.place c.requires)
