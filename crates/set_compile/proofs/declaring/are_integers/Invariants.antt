use Rattle.std.proofs.Common.{◌≡◌, drop, map}
use Rattle.std.specs.List.{list_all}
use Rattle.formula_core.specs.Counts.{is_int}
use Rattle.formula_core.specs.Variables.{sort_of}
use Rattle.set_compile.proofs.declaring.are_integers.Given as goal

abbrev pub invariant-loop-sort : goal.invariant-loop-sort
invariant-loop-sort l = list_all is_int (map sort_of l.sorts) ≡ list_all is_int (map sort_of (drop l.sort-index l.sorts))
