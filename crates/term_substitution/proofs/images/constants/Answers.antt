use Rattle.std.proofs.Common.{arith, pos, ◌≤◌, ◌^◌, unsigned_abs}
use mir.Val.{to_z}
use mir.Syntax.{w128}
use Rattle.term_substitution.proofs.Wrapping.{sum_fits, sum_unwrapped}
use Rattle.term_substitution.proofs.Summing.{summing_first, summing_next, summing_room}
use Rattle.term_substitution.proofs.images.constants.Goals as goal

pub image_constant-sum-requires-clause-variable : goal.image_constant-sum-requires-clause-variable
image_constant-sum-requires-clause-variable c = summing_first c.args.terms.now c.args.variables.now c.loop-variable.variable-index _ (to_z w128 c.loop-variable.sum-bits) c.loop-variable-test.true c.loop-variable.invariant

pub overflow_add-sum : goal.overflow_add-sum
overflow_add-sum c =
    let first = summing_first c.args.terms.now c.args.variables.now c.loop-variable.variable-index (0, pos 0) (to_z w128 c.loop-variable.sum-bits) c.loop-variable-test.true c.loop-variable.invariant in
    let small : unsigned_abs c.image_constant-sum.result ≤ 2 ^ 112 = omega (arith, first, c.image_constant-sum.ensures.small) in
    sum_fits (to_z w128 c.loop-variable.sum-bits) c.image_constant-sum.result (summing_room c.args.terms.now _ _ _ c.loop-variable.invariant) small

pub loop-variable-preserved : goal.loop-variable-preserved
loop-variable-preserved c =
    let first = summing_first c.args.terms.now c.args.variables.now c.loop-variable.variable-index (0, pos 0) (to_z w128 c.loop-variable.sum-bits) c.loop-variable-test.true c.loop-variable.invariant in
    let small : unsigned_abs c.image_constant-sum.result ≤ 2 ^ 112 = omega (arith, first, c.image_constant-sum.ensures.small) in
    rw (sum_unwrapped (to_z w128 c.loop-variable.sum-bits) c.image_constant-sum.result (summing_room c.args.terms.now _ _ _ c.loop-variable.invariant) small)
    (summing_next c.args.terms.now c.args.variables.now c.loop-variable.variable-index (0, pos 0) (to_z w128 c.loop-variable.sum-bits) c.image_constant-sum.result c.loop-variable-test.true c.loop-variable.invariant c.image_constant-sum.ensures.value c.image_constant-sum.ensures.small)
