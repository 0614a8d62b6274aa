use Rattle.std.proofs.Common.{◌+◌, ◌*◌}
use Rattle.std.specs.Prelude.{max}
use Rattle.script_syntax.specs.declared.tree.Tree.{size-Tree}
use Rattle.script_meaning.proofs.formulas.+formulas.Given as goal

abbrev pub decreases-core_formula : goal.decreases-core_formula
decreases-core_formula l = 3 * size-Tree l.tree.now

abbrev pub decreases-core_pair : goal.decreases-core_pair
decreases-core_pair l = 3 * max (size-Tree l.left.now) (size-Tree l.right.now) + 1

abbrev pub decreases-core_implication : goal.decreases-core_implication
decreases-core_implication l = 3 * max (size-Tree l.left.now) (size-Tree l.right.now) + 2
