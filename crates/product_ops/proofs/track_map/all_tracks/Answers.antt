use Rattle.std.proofs.Common.{Ok, refl, arith}
use Rattle.std.specs.declared.alloc.AllocError.{AllocError}
use Rattle.std.proofs.lemmas.Iterator.{items_from_collect, YieldsList-from_range}
use Rattle.product_ops.proofs.AllTracks.{tracks_are}
use Rattle.product_ops.proofs.track_map.all_tracks.Goals as goal

pub returns-in-Ok-clause-items : goal.returns-in-Ok-clause-items
returns-in-Ok-clause-items c = items_from_collect {E = AllocError} (Ok c.in-Ok.places) c.in-Ok.ensures.ran (YieldsList-from_range 0 c.args.tracks c.args.tracks refl (omega arith))

pub returns-in-Ok-clause-tracks : goal.returns-in-Ok-clause-tracks
returns-in-Ok-clause-tracks c = tracks_are c.args.tracks

pub returns-in-Err-clause-tracks : goal.returns-in-Err-clause-tracks
returns-in-Err-clause-tracks c = tracks_are c.args.tracks
