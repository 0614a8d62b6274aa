use Rattle.loop_meaning.proofs.Priming.{IsPriming}
use Rattle.loop_meaning.proofs.listing.loop_vars.Given as goal

abbrev pub invariant-loop-declaration : goal.invariant-loop-declaration
invariant-loop-declaration l = IsPriming l.declarations l.declaration-index l.vars
