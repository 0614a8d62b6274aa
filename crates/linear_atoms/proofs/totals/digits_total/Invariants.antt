use Rattle.std.proofs.Common.{◌-◌}
use Rattle.linear_atoms.specs.Totals.{IsSumming, letter_digits}
use Rattle.linear_atoms.proofs.totals.digits_total.Given as goal

abbrev pub invariant-loop-term : goal.invariant-loop-term
invariant-loop-term l = IsSumming l.atom.terms (letter_digits l.base l.tracks l.letter) (l.base - 1) l.term-index l.sum
