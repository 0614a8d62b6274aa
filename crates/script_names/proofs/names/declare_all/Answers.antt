use Rattle.script_names.proofs.Declaring.{declared_next}
use Rattle.script_names.proofs.names.declare_all.Goals as goal

pub loop-declaration-preserved : goal.loop-declaration-preserved
loop-declaration-preserved c = declared_next _ c.args.scope.now c.loop-declaration.scope c.declare.new.self c.args.declarations.now c.loop-declaration.declaration-index c.loop-declaration-test.true c.loop-declaration.invariant c.in-Ok.ensures.0 c.in-Ok.ensures.1
