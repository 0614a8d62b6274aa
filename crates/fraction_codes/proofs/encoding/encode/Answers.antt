use Rattle.std.proofs.Common.{ℕ, arith, subst}
use Rattle.digit_codes.specs.Reading.{lasso_of}
use Rattle.fraction_codes.specs.FixedCodes.{SpellsVector}
use Rattle.fraction_codes.proofs.Coding.{small_fractions, spells_vector}
use Rattle.fraction_codes.proofs.encoding.encode.Goals as goal

pub returns-in-Ok-clause-vector : goal.returns-in-Ok-clause-vector
returns-in-Ok-clause-vector c =
    let P : ℕ → Type 0 = λ r. SpellsVector r c.args.values.now (lasso_of c.in-Ok.lasso) in
    subst P c.radix.ensures.value (spells_vector c.radix.result c.in-Some.divisor c.args.values.now (lasso_of c.in-Ok.lasso) (omega (arith, c.radix.ensures.low, c.radix.ensures.value)) (small_fractions c.args.values.now c.requires.small) c.in-Some.ensures.some.0 c.in-Ok.ensures)
