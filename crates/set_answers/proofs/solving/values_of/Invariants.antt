-- The values of the first tracks were found.
use Rattle.digit_codes.specs.Reading.{lasso_of}
use Rattle.set_answers.proofs.Finding.{IsFinding}
use Rattle.set_answers.proofs.solving.values_of.Given as goal

abbrev pub invariant-loop-track : goal.invariant-loop-track
invariant-loop-track l = IsFinding l.base l.tracks l.track (lasso_of l.lasso) l.found.items
