use Rattle.std.proofs.Common.{rules}
use Rattle.std.proofs.lemmas.Int.{to_z-of_z}
use mir.Val.{SFits}
use mir.Syntax.{w128}
use Rattle.matrix_powers.specs.Orbits.{Route}
use Rattle.matrix_powers.proofs.Turning.{orbit_stride}
use Rattle.matrix_powers.proofs.orbit.Orbit.stride.Goals as goal

pub returns-clause-small : goal.returns-clause-small
returns-clause-small c =
    let o : Route = record { matrix = c.self.inside.matrix; shift = c.self.inside.shift; power = c.self.inside.power } in
    let fits : SFits w128 c.difference.result = search rules in
    rw (to_z-of_z w128 c.difference.result fits)
    (orbit_stride c.args.self.now o c.self.inside.powers.items c.self.inside.sums.items c.args.remainder c.args.row c.index-after.result.now c.index-before.result.now c.difference.result c.self.view_is c.self.invariant c.index-after.ensures c.index-before.ensures c.difference.ensures c.requires.remainder c.requires.row)
