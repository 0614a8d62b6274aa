use Rattle.std.proofs.Common.{◌≡◌, ℕ, ◌<◌, length, All}
use Rattle.std.proofs.Math.IntN.{pos}
use Rattle.linear_atoms.specs.Closing.{IsSmallTotal}
use Rattle.linear_atoms.specs.Totals.{HasTotals}
use Rattle.linear_atoms.proofs.totals.letter_totals.Given as goal

abbrev pub invariant-loop-letter : goal.invariant-loop-letter
invariant-loop-letter l = HasTotals l.atom.terms l.base l.tracks l.totals.items l.letter
