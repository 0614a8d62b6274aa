-- The letters over all places are few, and the walk answers for the subformulas.
use Rattle.std.proofs.Common.{arith, sym, ◌∙◌, subst}
use Rattle.formula_core.specs.FewLetters.{AreFew}
use Rattle.formula_core.specs.PlaceSets.{Finds}
use Rattle.formula_core.specs.Shape.{formula_of}
use Rattle.formula_core.proofs.Walking.{fits_found}
use Rattle.formula_core.proofs.letters.fits_letters.Goals as goal

pub returns-then-are_few : goal.returns-then-are_few
returns-then-are_few c =
    let f = formula_of c.args.formula.now in
    let few : AreFew c.args.base c.args.places = subst (λ r. AreFew r c.args.places) c.radix-radix.ensures.value (c.are_few.ensures.0 c.if-are_few.true) in
    let found : Finds c.args.base f c.args.places c.free_set.result = subst (λ r. Finds r f c.args.places c.free_set.result) c.radix-radix.ensures.value (c.free_set.ensures c.args.places (omega arith)) in
    let both = fits_found c.args.base f c.args.places c.free_set.result few found in
    (λ e. both.0 (sym c.is_some.ensures ∙ e), λ h. c.is_some.ensures ∙ both.1 h)
