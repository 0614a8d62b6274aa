-- The written solution of a table (own): the fixed one, as a line for each variable.
use Rattle.std.specs.Prelude.{◌≡◌, ℕ, ◌+◌, ◌^◌, ◌<◌, ◌≤◌, ◌⊎◌, List, [], ◌∷◌, ◌++◌, length, codes, Bool, nat_lt, Option, None, Some, Result, Ok, Err, pos, if◌then◌else◌}
use Rattle.std.specs.Ordering.{int_eq}
use Rattle.std.specs.Fmt.{signed_decimal}
use Rattle.std.specs.List.{slice_index_or}
use Rattle.lash_io.specs.Faults.{IsFaultCounted}
use Rattle.lash_model.specs.Formulas.{Sort}
use Rattle.lash_model.specs.Lassos.{Lasso}
use Rattle.lash_model.specs.Tables.{Table, fracs, IsDiagram}
use Rattle.automaton_texts.specs.Text.{texts_upto}
use Rattle.lash_io.specs.Sinks.{Holds, HoldsPart}
use Rattle.formula_core.specs.Variables.{names_of}
use Rattle.fraction_codes.specs.DigitText.{track_text}
use Rattle.fraction_codes.specs.Reading.{IsValue}
use Rattle.fraction_codes.specs.declared.ratio.Ratio.{Ratio}
use Rattle.solution_pick.specs.FractionSolutions.{AcceptsNoLasso, IsFixedSolution}
use Rattle.solution_pick.specs.Solutions.{AcceptsNothing, IsLeastAccepted}
use Rattle.set_answers.specs.declared.errors.WriteError.{WriteError}
use Rattle.set_answers.specs.declared.errors.WriteError.TheVariants.{Fault, Memory}

-- numerator and denominator in decimal; a denominator of 1 is left out
abbrev pub ratio_text : Ratio → List ℕ
ratio_text v = signed_decimal v.num ++ (if int_eq v.den (pos 1) then [] else codes "/" ++ signed_decimal v.den)

abbrev pub value_text : Option Ratio → List ℕ
value_text None = codes "-"
value_text (Some v) = ratio_text v

abbrev pub letter_count : Lasso → ℕ
letter_count x = length x.whole + length x.stem + length x.cycle

-- base, number of tracks, track, lasso, value: the track's fraction in lowest terms; none if the base to the number of letters
-- passes 2 ^ 100
abbrev pub IsFound : ℕ → ℕ → ℕ → Lasso → Option Ratio → Type 0
IsFound r n i x None = 2 ^ 100 < r ^ letter_count x
IsFound r n i x (Some v) = IsValue r n i x v × (r ^ letter_count x ≤ 2 ^ 100)

-- the value of each track
pub record AreFound (r n : ℕ) (x : Lasso) (found : List (Option Ratio)) : Type 0 where
  pub count : length found ≡ n
  pub each : (i : ℕ) → i < n → IsFound r n i x (slice_index_or found i None)

-- whether the table has fraction states
abbrev pub has_fractions : Table → Bool
has_fractions t = nat_lt 0 (fracs t)

-- the line of the variable at a place: its name, its value, the digits of its track, those after the point only if they are asked for
abbrev pub solution_line : List (List ℕ × Sort) → ℕ → Bool → Lasso → List (Option Ratio) → ℕ → List ℕ
solution_line vars r fraction x found i = slice_index_or (names_of vars) i [] ++ (codes " " ++ (value_text (slice_index_or found i None) ++ (codes " " ++ (track_text r (length vars) i x fraction ++ codes "\n"))))

-- variables, base, whether digits after the point are written, lasso, values
unfoldable pub solution_text : List (List ℕ × Sort) → ℕ → Bool → Lasso → List (Option Ratio) → List ℕ
solution_text vars r fraction x found = codes "solution\n" ++ texts_upto (solution_line vars r fraction x found) (length vars)

-- the table accepts nothing: a diagram no word, and any other table no lasso
abbrev pub IsEmptyTable : Table → Type 0
IsEmptyTable t = (IsDiagram t × AcceptsNothing t) ⊎ ((0 < fracs t) × AcceptsNoLasso t)

-- the fixed solution of a diagram: the least sign vector and whole word that it accepts, and the fraction 0
pub record IsLeastWhole (t : Table) (x : Lasso) : Type 0 where
  pub least : IsLeastAccepted t x.sign x.whole
  pub stem : x.stem ≡ []
  pub cycle : x.cycle ≡ 0 ∷ []

-- the fixed solution of a table of either kind
abbrev pub IsFixed : Table → Lasso → Type 0
IsFixed t x = (IsDiagram t × IsLeastWhole t x) ⊎ ((0 < fracs t) × IsFixedSolution t x)

-- the text is that of the fixed solution
pub record IsSolutionText (vars : List (List ℕ × Sort)) (t : Table) (text : List ℕ) : Type 0 where
  pub lasso : Lasso
  pub found : List (Option Ratio)
  pub fixed : IsFixed t lasso
  pub values : AreFound t.base (length vars) lasso found
  pub is : text ≡ solution_text vars t.base (has_fractions t) lasso found

-- what is written of a table
abbrev pub IsSolved : List (List ℕ × Sort) → Table → List ℕ → Type 0
IsSolved vars t piece = (IsEmptyTable t × (piece ≡ codes "empty\n")) ⊎ IsSolutionText vars t piece

-- the sink gained what is written of the table; at a fault, which was counted, a part of it; and nothing if memory ran out
abbrev pub Written : List (List ℕ × Sort) → Table → Option (List ℕ) → Option (List ℕ) → ℕ → ℕ → {U : Type 0} → Result U WriteError → Type 0
Written vars t before after faults_before faults_after (Ok u) = (piece : List ℕ) × (IsSolved vars t piece × Holds before after piece)
Written vars t before after faults_before faults_after (Err Fault) = IsFaultCounted faults_before faults_after × ((piece : List ℕ) × (IsSolved vars t piece × HoldsPart before after piece))
Written vars t before after faults_before faults_after (Err Memory) = Holds before after []
