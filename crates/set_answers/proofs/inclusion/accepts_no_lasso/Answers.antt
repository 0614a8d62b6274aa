-- The canonical table has no solution.
use Rattle.digit_codes.specs.Reading.{lasso_of}
use Rattle.set_answers.proofs.Differing.{no_solution}
use Rattle.set_answers.proofs.inclusion.accepts_no_lasso.Goals as goal

pub returns-in-Ok : goal.returns-in-Ok
returns-in-Ok c =
    let some = (c.in_ok-canon.ensures.fractions c.requires.fractions).fractions in
    no_solution lasso_of c.in-Ok.found c.is_none.result c.args.table.now.table c.in_ok-canon.canon.table c.is_none.ensures
    c.in_ok-canon.ensures.base c.in_ok-canon.ensures.tracks (c.in_ok-canon.ensures.lassos c.requires.fractions)
    (c.in-Ok.ensures.no_lasso some) (c.in-Ok.ensures.fixed some)
