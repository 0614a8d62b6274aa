-- Each list has all tracks.
use Rattle.std.proofs.Common.{ℕ, List, sym, subst}
use Rattle.product_ops.specs.Tracks.{AreTracks}
use Rattle.product_ops.proofs.AllTracks.{tracks_are}
use Rattle.set_answers.proofs.inclusion.shared_tracks.Goals as goal

pub new-requires-clause-left : goal.new-requires-clause-left
new-requires-clause-left c = subst (λ (xs : List ℕ). AreTracks c.args.tracks xs) (sym c.in-Ok.ensures.items) (tracks_are c.args.tracks)

pub new-requires-clause-right : goal.new-requires-clause-right
new-requires-clause-right c = subst (λ (xs : List ℕ). AreTracks c.args.tracks xs) (sym c.in-Ok-all_tracks.ensures.items) (tracks_are c.args.tracks)
