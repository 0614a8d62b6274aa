use Rattle.loop_closure.specs.Builders.{body_in, whole_of}
use Rattle.loop_closure.proofs.Branching.{no_short_count}
use Rattle.loop_closure.proofs.branches.put_short_count.Goals as goal

pub returns-then-not-builder : goal.returns-then-not-builder
returns-then-not-builder c = no_short_count c.args.builder.now.counted (body_in c.args.builder.now) c.args.turns (whole_of c.args.whole) c.if-not-builder.true
