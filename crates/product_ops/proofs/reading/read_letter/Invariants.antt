use Rattle.std.proofs.Common.{◌≡◌, take}
use Rattle.lash_model.specs.Letters.{digits, number}
use Rattle.product_ops.specs.Tracks.{pick}
use Rattle.product_ops.proofs.reading.read_letter.Given as goal

abbrev pub invariant-loop-place : goal.invariant-loop-place
invariant-loop-place l = l.read ≡ number l.base (pick (take l.place-index l.places) (digits l.base l.tracks l.letter))
