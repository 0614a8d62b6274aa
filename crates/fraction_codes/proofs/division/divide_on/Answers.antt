-- One step more was made.
use Rattle.std.proofs.Common.{◌-◌, arith}
use Rattle.fraction_codes.proofs.Dividing.{under_next, under_letters, under_rests}
use Rattle.fraction_codes.proofs.division.divide_on.Goals as goal

pub loop-step-preserved : goal.loop-step-preserved
loop-step-preserved c = under_next c.args.radix c.args.divisor c.args.steps c.loop-step._step _ c.args.rests.now c.loop-step.rests _ c.loop-step.word _ c.loop-step-test.true c.loop-step.invariant c.divide_once.ensures.rests c.divide_once.ensures.letter c.in_ok-push.ensures.pushed

pub returns-clause-letters : goal.returns-clause-letters
returns-clause-letters c = under_letters c.args.radix c.args.divisor c.args.steps (c.args.steps - c.loop-step._step) c.args.rests.now c.loop-step.rests c.loop-step.word (omega (arith, c.loop-step-test.false)) c.loop-step.invariant

pub returns-clause-rests : goal.returns-clause-rests
returns-clause-rests c = under_rests c.args.radix c.args.divisor c.args.steps (c.args.steps - c.loop-step._step) c.args.rests.now c.loop-step.rests c.loop-step.word (omega (arith, c.loop-step-test.false)) c.loop-step.invariant
