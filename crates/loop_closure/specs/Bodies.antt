-- The loop of the definitions that a loop of the program is.
use Rattle.formula_core.specs.Shape.{formula_of}
use Rattle.loop_laws.specs.Turns.{Body}
use Rattle.loop_closure.specs.declared.body.LoopBody.{LoopBody}

abbrev pub body_of : LoopBody → Body
body_of b = record { matrix = b.matrix; shift = b.shift; guard = formula_of b.guard }
