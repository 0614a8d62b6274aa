use Rattle.std.proofs.Common.{◌+◌, ◌*◌}
use Rattle.std.specs.Prelude.{max}
use Rattle.formula_core.specs.declared.formula.Formula.{size-Formula}
use Rattle.set_compile.proofs.nodes.+part.Given as goal

abbrev pub decreases-part : goal.decreases-part
decreases-part l = 2 * size-Formula l.formula.now

abbrev pub decreases-conjunction : goal.decreases-conjunction
decreases-conjunction l = 2 * max (size-Formula l.left.now) (size-Formula l.right.now) + 1

abbrev pub decreases-disjunction : goal.decreases-disjunction
decreases-disjunction l = 2 * max (size-Formula l.left.now) (size-Formula l.right.now) + 1
