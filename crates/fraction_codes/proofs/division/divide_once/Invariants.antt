-- The first remainders were divided.
use Rattle.fraction_codes.specs.Steps.{IsDivided}
use Rattle.fraction_codes.proofs.division.divide_once.Given as goal

abbrev pub invariant-loop-rest : goal.invariant-loop-rest
invariant-loop-rest l = IsDivided l.radix l.divisor l.initial.rests l.rests l.rest-index l.letter
