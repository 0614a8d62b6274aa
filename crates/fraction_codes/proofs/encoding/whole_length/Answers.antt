use Rattle.std.proofs.Common.{ℕ, subst}
use Rattle.fraction_codes.specs.Steps.{IsDigitCount}
use Rattle.fraction_codes.proofs.Counting.{floor_count_more, max_small}
use Rattle.fraction_codes.proofs.encoding.whole_length.Goals as goal

pub loop-value-preserved : goal.loop-value-preserved
loop-value-preserved c =
    let P : ℕ → Type 0 = λ x. IsDigitCount c.args.radix x c.digit_count.result in
    rw c.max-length.ensures (
      floor_count_more c.args.radix c.loop-value.value-index c.loop-value.length c.digit_count.result c.args.values.now _ c.requires.low c.loop-value-test.true c.loop-value.invariant.0 (subst P c.floor_distance.ensures.value c.digit_count.ensures.count),
      max_small c.args.radix c.loop-value.length c.digit_count.result _ c.loop-value.invariant.1 c.digit_count.ensures.small,
    )
