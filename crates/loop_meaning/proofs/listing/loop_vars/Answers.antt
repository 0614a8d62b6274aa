use Rattle.std.proofs.Common.{◌∙◌}
use Rattle.loop_meaning.proofs.Priming.{primed_none, primed_more, next_prime_is_new}
use Rattle.loop_meaning.proofs.listing.loop_vars.Goals as goal

pub loop-declaration-init : goal.loop-declaration-init
loop-declaration-init c = primed_none c.args.declarations.now c.in-Ok.vars c.in-Ok.ensures

pub add-requires-clause-fresh : goal.add-requires-clause-fresh
add-requires-clause-fresh c = next_prime_is_new _ c.args.declarations.now c.loop-declaration.declaration-index c.loop-declaration.vars c.deref.result.now c.loop-declaration-test.true c.loop-declaration.invariant c.requires.fresh c.requires.named (c.deref.ensures.value ∙ c.in-Ok-primed.ensures)

pub loop-declaration-preserved : goal.loop-declaration-preserved
loop-declaration-preserved c = primed_more _ c.args.declarations.now c.loop-declaration.declaration-index c.loop-declaration.vars c.add.new.self c.loop-declaration-test.true c.loop-declaration.invariant c.requires.fresh c.deref.result.now (c.deref.ensures.value ∙ c.in-Ok-primed.ensures) c.in-Ok-add.ensures.appended
