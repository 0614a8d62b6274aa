-- The code of a vector is read, if its least common denominator is not too great.
use Rattle.std.proofs.Common.{◌≡◌, ap, ◌∙◌, subst}
use Rattle.step_tables.specs.Kept.{Kept}
use Rattle.digit_codes.specs.Reading.{lasso_of}
use Rattle.fraction_codes.specs.FixedCodes.{Encodes, SpellsVector}
use Rattle.set_answers.proofs.WholeFractions.{coarse_not_fine}
use Rattle.set_answers.proofs.membership.accepts_code.Goals as goal

pub unreachable-requires : goal.unreachable-requires
unreachable-requires c = coarse_not_fine c.args.values.now c.requires.coarse (c.in-Err-Denominator.ensures.denominator c.in-Err-Denominator.field-0-is)

pub returns-in-Ok : goal.returns-in-Ok
returns-in-Ok c =
    let base : c.base.result ≡ c.args.canon.now.table.base = c.base.ensures ∙ ap (λ (k : Kept). k.table.base) c.table.ensures.value in
    record {
      lasso = lasso_of c.in-Ok.lasso;
      code = subst (λ r. Encodes r c.args.values.now (lasso_of c.in-Ok.lasso)) base c.in-Ok.ensures.code;
      spells = subst (λ r. SpellsVector r c.args.values.now (lasso_of c.in-Ok.lasso)) base c.in-Ok.ensures.vector;
      of_word = c.member.ensures.diagram;
      of_lasso = c.member.ensures.fractions;
    }
