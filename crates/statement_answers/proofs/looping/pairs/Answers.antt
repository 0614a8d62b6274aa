use Rattle.std.proofs.Common.{◌≡◌, ◌+◌, ◌*◌, arith, subst}
use Rattle.formula_core.specs.FewLetters.{FitsLetters}
use Rattle.formula_core.specs.Shape.{formula_of}
use Rattle.loop_closure.specs.Bodies.{body_of}
use Rattle.statement_answers.proofs.Pairing.{pairing, unpaired}
use Rattle.statement_answers.proofs.looping.pairs.Goals as goal

pub returns-in-Err-clause-cause : goal.returns-in-Err-clause-cause
returns-in-Err-clause-cause c = rw c.unclosed.ensures (unpaired c.args.settings.base (body_of c.args.body.now) c.in-Err.error c.in-Err.ensures.cause)

pub returns-then-fits_letters-clause-pairs : goal.returns-then-fits_letters-clause-pairs
returns-then-fits_letters-clause-pairs c =
    let fits = c.fits_letters.ensures.0 c.if-fits_letters.true in
    let twice : c.side.result * 2 ≡ c.args.body.now.matrix.side + c.args.body.now.matrix.side = omega (arith, c.side.ensures.value) in
    pairing c.args.settings.base (body_of c.args.body.now) (formula_of c.in-Ok.formula) c.in-Ok.ensures.formula c.in-Ok.ensures.within c.in-Ok.ensures.over
    (subst (λ n. FitsLetters c.args.settings.base (formula_of c.in-Ok.formula) n) twice fits)
