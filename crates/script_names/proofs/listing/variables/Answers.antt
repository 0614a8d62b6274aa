use Rattle.script_names.proofs.Fresh.{next_is_new}
use Rattle.script_names.proofs.listing.variables.Goals as goal

pub add-requires-clause-fresh : goal.add-requires-clause-fresh
add-requires-clause-fresh c = next_is_new _ c.loop-declaration.vars c.args.declarations.now c.loop-declaration.declaration-index c.loop-declaration-test.true c.loop-declaration.invariant c.requires.fresh
