use Rattle.std.proofs.Common.{map, drop, []}
use Rattle.script_syntax.specs.Trees.{declaration_of}
use Rattle.script_names.proofs.Declaring.{IsDeclaring}
use Rattle.script_names.proofs.listing.variables.Given as goal

abbrev pub invariant-loop-declaration : goal.invariant-loop-declaration
invariant-loop-declaration l = IsDeclaring [] (map declaration_of l.declarations) l.vars (map declaration_of (drop l.declaration-index l.declarations))
