use Rattle.std.proofs.Common.{sym, subst}
use Rattle.formula_core.specs.Shape.{formula_of}
use Rattle.product_ops.specs.Tracks.{AreTracks}
use Rattle.set_compile.proofs.Places.{free_tracks}
use Rattle.set_compile.proofs.compiling.wide_map.Goals as goal

pub new-requires-in-Ok-clause-left : goal.new-requires-in-Ok-clause-left
new-requires-in-Ok-clause-left c = subst (AreTracks c.args.places) (sym c.in-Ok.ensures.places) (free_tracks (formula_of c.args.formula.now) c.args.places)
