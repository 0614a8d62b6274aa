use Rattle.std.proofs.Common.{◌≡◌}
use Rattle.subset_build.proofs.KeptLetters.{signs_upto}
use Rattle.subset_build.proofs.kept_letters.sign_letter.Given as goal

abbrev pub invariant-loop-track : goal.invariant-loop-track
invariant-loop-track l = l.letter ≡ signs_upto l.fn.base l.tracks l.track l.sign
