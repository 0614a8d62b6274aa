use Rattle.std.proofs.Common.{◌≡◌, take}
use Rattle.set_compile.specs.Steps.{numbered}
use Rattle.set_compile.proofs.atoms.own_term.Given as goal

abbrev pub invariant-loop-at : goal.invariant-loop-at
invariant-loop-at l = l.made ≡ record { terms = numbered 0 (take l.at l.terms); constant = l.term.constant }
