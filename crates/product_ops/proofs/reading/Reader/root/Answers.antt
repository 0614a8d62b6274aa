use Rattle.std.proofs.Common.{◌<◌, ◌^◌, subst, sym}
use Rattle.product_ops.specs.Pairs.{Operand}
use Rattle.product_ops.proofs.TrackReading.{sign_reading_in}
use Rattle.product_ops.proofs.reading.Reader.root.Goals as goal

pub root-requires : goal.root-requires
root-requires g c = sign_reading_in (record { table = c.self.inside.table.now.table; tracks = c.self.inside.tracks; places = c.self.inside.places.now }) c.self.inside.letters.items c.self.inside.signs.items c.self.invariant c.args.sign c.index.result.now (subst (λ (v : Operand). c.args.sign < 2 ^ v.tracks) (sym c.self.view_is) c.requires) c.index.ensures
