-- The letters so far and those to come are all letters.
use Rattle.std.proofs.Common.{◌-◌}
use Rattle.fraction_codes.specs.Steps.{IsUnderWay}
use Rattle.fraction_codes.proofs.division.divide_on.Given as goal

abbrev pub invariant-loop-step : goal.invariant-loop-step
invariant-loop-step l = IsUnderWay l.radix l.divisor l.steps l.initial.rests l.rests l.word (l.steps - l._step)
