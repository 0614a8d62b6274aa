-- The parts of a solution's text, as the code puts them.
use Rattle.std.proofs.Common.{◌≡◌, ℕ, Bool, false, List, [], ◌++◌, codes, None, ◌∙◌, sym, ap}
use Rattle.std.proofs.Math.IntN.{pos}
use Rattle.std.specs.Prelude.{if◌then◌else◌}
use Rattle.std.specs.Fmt.{signed_decimal}
use Rattle.std.specs.Ordering.{int_eq}
use Rattle.std.specs.List.{slice_index_or}
use Rattle.automaton_texts.specs.Text.{texts_upto}
use Rattle.formula_core.specs.Variables.{names_of}
use Rattle.fraction_codes.specs.DigitText.{track_text}
use Rattle.fraction_codes.specs.declared.ratio.Ratio.{Ratio}
use Rattle.digit_codes.specs.Reading.{lasso_of}
use Rattle.set_answers.specs.Solving.{ratio_text, value_text, solution_text}
use Rattle.set_answers.specs.Writing.{IsAnswer, line_of, lines_of, text_of_answer}
use Rattle.set_answers.specs.declared.lines.Answer.{Answer}

-- a line of a variable's name and the digits of its track
pub line_is : (a : Answer) (i : ℕ) (name : List ℕ) → IsAnswer a → name ≡ slice_index_or (names_of a.vars.now) i []
    → name ++ (codes " " ++ (value_text (slice_index_or a.found.now i None) ++
    (codes " " ++ (track_text a.base a.tracks i (lasso_of a.lasso.now) a.fraction ++ codes "\n")))) ≡ line_of a i
line_is a i name h e =
    ap (λ xs. xs ++ (codes " " ++ (value_text (slice_index_or a.found.now i None) ++
    (codes " " ++ (track_text a.base a.tracks i (lasso_of a.lasso.now) a.fraction ++ codes "\n"))))) e
    ∙ ap (λ n. slice_index_or (names_of a.vars.now) i [] ++
    (codes " " ++ (value_text (slice_index_or a.found.now i None) ++
    (codes " " ++ (track_text a.base n i (lasso_of a.lasso.now) a.fraction ++ codes "\n"))))) (sym h.variables)

pub text_is : (a : Answer) → IsAnswer a → codes "solution\n" ++ lines_of a ≡ text_of_answer a
unfolding solution_text
text_is a h = ap (λ n. codes "solution\n" ++ texts_upto (line_of a) n) (sym h.variables)

-- a denominator that is not 1 is written
pub ratio_is : (v : Ratio) → int_eq v.den (pos 1) ≡ false → signed_decimal v.num ++ (codes "/" ++ signed_decimal v.den) ≡ ratio_text v
ratio_is v e = ap (λ (one : Bool). signed_decimal v.num ++ (if one then [] else codes "/" ++ signed_decimal v.den)) (sym e)
