use Rattle.std.proofs.Common.{arith}
use mir.Val.{to_z}
use mir.Syntax.{w128}
use Rattle.matrix_powers.proofs.Adding.{sum_begins, sum_next}
use Rattle.matrix_powers.proofs.Wrapping.{sum_unwrapped}
use Rattle.matrix_powers.proofs.sums.image_row.Goals as goal

pub loop-at-init : goal.loop-at-init
loop-at-init c = sum_begins _ _

pub loop-at-preserved : goal.loop-at-preserved
loop-at-preserved c =
    rw (sum_unwrapped (to_z w128 c.loop-at.sum-bits) c.part-sum.result (omega arith) (omega (arith, c.part-sum.ensures.small)))
    (sum_next _ _ _ _ _ c.loop-at.invariant c.part-sum.ensures.value c.part-sum.ensures.small)
