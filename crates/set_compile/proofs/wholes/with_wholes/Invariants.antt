use Rattle.std.proofs.Common.{map}
use Rattle.formula_core.specs.Variables.{sort_of}
use Rattle.set_compile.proofs.Sweeping.{IsSwept}
use Rattle.set_compile.proofs.wholes.with_wholes.Given as goal

abbrev pub invariant-loop-place : goal.invariant-loop-place
invariant-loop-place l = IsSwept l.build l.place (map sort_of l.sorts) l.fn.wide.table l.made.table
