use Rattle.std.proofs.Common.{arith, ap}
use mir.Val.{of_z}
use mir.Syntax.{w128}
use Rattle.matrix_powers.specs.Matrices.{Square}
use Rattle.matrix_powers.proofs.Filling.{same_read}
use Rattle.matrix_powers.proofs.matrix.Matrix.has_entries_of.Goals as goal

pub returns-then-index-clause-differ : goal.returns-then-index-clause-differ
returns-then-index-clause-differ c = λ _ same.
    let a : Square = record { side = c.self.inside.side; entries = c.self.inside.entries.items } in
    let b : Square = record { side = c.other.inside.side; entries = c.other.inside.entries.items } in
    c.if-index.true (ap (of_z w128) (same_read c.args.self.now a c.args.other.now b c.loop-at.at c.index.result.now c.index-in-loop-at.result.now c.self.view_is c.other.view_is c.self.invariant c.other.invariant c.requires (omega arith) c.index.ensures c.index-in-loop-at.ensures same))
