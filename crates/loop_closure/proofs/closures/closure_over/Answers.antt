use Rattle.std.proofs.Common.{sym, ◌∙◌}
use Rattle.formula_core.specs.Shape.{formula_of}
use Rattle.loop_closure.specs.Bodies.{body_of}
use Rattle.loop_closure.proofs.Closed.{over_places, ints_bound}
use Rattle.loop_closure.proofs.closures.closure_over.Goals as goal

pub returns-in-None-clause-over : goal.returns-in-None-clause-over
returns-in-None-clause-over c = over_places c.args.counted (body_of c.args.body.now) c.args.power (formula_of c.in-Ok.formula) c.requires.body c.has_many_nodes.ensures.square.some c.requires.least.some c.in-Ok.ensures (sym c.limit.ensures ∙ c.in-None.is)

pub returns-in-None-clause-ints : goal.returns-in-None-clause-ints
returns-in-None-clause-ints c = ints_bound c.args.counted (body_of c.args.body.now) c.args.power (formula_of c.in-Ok.formula) c.requires.body c.has_many_nodes.ensures.square.some c.requires.least.some c.in-Ok.ensures
