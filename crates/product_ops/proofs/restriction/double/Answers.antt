use Rattle.std.proofs.Common.{arith, refl, ◌∙◌, ◌<◌, length, slice_index}
use Rattle.product_ops.proofs.Doubling.{none_doubled, one_doubled, all_doubled, count_doubled, inside_doubled}
use Rattle.product_ops.proofs.restriction.double.Goals as goal

pub loop-state-init : goal.loop-state-init
loop-state-init c = record {
  count = refl;
  inside = c.requires;
  doubled = λ rows width least e. none_doubled rows width least c.args.ends.now e;
}

pub bounds-ends-ends : goal.bounds-ends-ends
bounds-ends-ends c =
    let at_in : c.loop-state.state < length c.loop-state.ends = omega (arith, c.loop-state-test.true, c.loop-state.invariant.count) in
    c.loop-state.invariant.inside c.loop-state.state 0 at_in

pub loop-state-preserved : goal.loop-state-preserved
loop-state-preserved c =
    let at_in : c.loop-state.state < length c.loop-state.ends = omega (arith, c.loop-state-test.true, c.loop-state.invariant.count) in
    record {
      count = count_doubled c.loop-state.ends c.loop-state.state (slice_index c.loop-state.ends (slice_index c.loop-state.ends c.loop-state.state)) ∙ c.loop-state.invariant.count;
      inside = inside_doubled c.loop-state.ends c.loop-state.state (slice_index c.loop-state.ends (slice_index c.loop-state.ends c.loop-state.state)) c.loop-state.invariant.inside at_in
          (c.loop-state.invariant.inside (slice_index c.loop-state.ends c.loop-state.state) 0 (c.loop-state.invariant.inside c.loop-state.state 0 at_in));
      doubled = λ rows width least e. one_doubled rows width least c.loop-state.state (slice_index c.loop-state.ends (slice_index c.loop-state.ends c.loop-state.state)) c.loop-state.ends
          (c.loop-state.invariant.doubled rows width least e) at_in refl;
    }

pub returns-clause-ends : goal.returns-clause-ends
returns-clause-ends c = λ rows width least e.
    all_doubled rows width least c.loop-state.state c.loop-state.ends (c.loop-state.invariant.doubled rows width least e)
    (omega (arith, c.loop-state-test.false, c.loop-state.auto.state-end, c.loop-state.invariant.count))
