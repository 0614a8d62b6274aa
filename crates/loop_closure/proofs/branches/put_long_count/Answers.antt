use Rattle.std.proofs.Common.{◌+◌, arith}
use Rattle.loop_closure.specs.Builders.{body_in, whole_of}
use Rattle.loop_closure.proofs.Branching.{no_long_count}
use Rattle.loop_closure.proofs.Coefficients.{multiple_substitute}
use Rattle.loop_closure.proofs.branches.put_long_count.Goals as goal

pub returns-then-not-builder : goal.returns-then-not-builder
returns-then-not-builder c = no_long_count c.args.builder.now.counted (body_in c.args.builder.now) c.args.builder.now.orbit.power c.args.remainder (whole_of c.args.whole) c.if-not-builder.true

pub equal-requires-clause-term : goal.equal-requires-clause-term
equal-requires-clause-term c = multiple_substitute (c.side.result + c.side-2.result + 1) (c.side.result + c.side-2.result + 2) c.power.result c.args.remainder c.in-Ok.term (omega arith) (omega (arith, c.power.ensures.value, c.power.ensures.few)) (omega (arith, c.ranges.remainder.fits)) c.in-Ok.ensures
