-- Solutions as the code holds them, and their lines.
use Rattle.std.specs.Prelude.{◌≡◌, ℕ, ◌^◌, ◌≤◌, List, length}
use Rattle.lash_model.specs.Lassos.{IsLasso}
use Rattle.automaton_texts.specs.Text.{texts_upto}
use Rattle.digit_codes.specs.Reading.{lasso_of}
use Rattle.set_answers.specs.Solving.{solution_line, solution_text}
use Rattle.set_answers.specs.declared.lines.Answer.{Answer}

-- there is a variable and a value for each track, and the lasso is in range
pub record IsAnswer (a : Answer) : Type 0 where
  pub variables : length a.vars.now ≡ a.tracks
  pub values : length a.found.now ≡ a.tracks
  pub few : a.base ^ a.tracks ≤ 4096
  pub lasso : IsLasso a.base a.tracks (lasso_of a.lasso.now)

abbrev pub line_of : Answer → ℕ → List ℕ
line_of a i = solution_line a.vars.now a.base a.fraction (lasso_of a.lasso.now) a.found.now i

abbrev pub lines_of : Answer → List ℕ
lines_of a = texts_upto (line_of a) a.tracks

abbrev pub text_of_answer : Answer → List ℕ
text_of_answer a = solution_text a.vars.now a.base a.fraction (lasso_of a.lasso.now) a.found.now
