-- The lines after the first ones, part by part. What they say is given by functions of the place, state or letter.
use Rattle.std.specs.Prelude.{ℕ, suc, ◌+◌, ◌*◌, ◌^◌, Bool, true, List, [], ◌++◌, length, slice_index, codes, Some, nat_eq, if◌then◌else◌}
use Rattle.lash_model.specs.Tables.{Table, letters, ints, fracs, out_bound}
use Rattle.text_laws.specs.Numerals.{numeral}
use Rattle.text_laws.specs.Reading.{pair_text, PairAllowed, after_word, parts_text, PartsAllowed, IsAny}
use Rattle.text_laws.specs.Parts.{ended_number, IsBetween, ended_answer}
use Rattle.text_laws.specs.Spellings.{Head}

-- the last of so many numbers is ended by the end of the line, and each other by a space
abbrev pub ending_at : ℕ → ℕ → ℕ
ending_at count i = if nat_eq (suc i) count then 10 else 32

-- one of so many numbers
abbrev pub number_at : ℕ → ℕ → ℕ → List ℕ
number_at count i n = ended_number (ending_at count i) n

-- so many numbers
abbrev pub numbers_text : ℕ → (ℕ → ℕ) → List ℕ
numbers_text count = parts_text (number_at count) count

-- so many numbers below a bound
abbrev pub NumbersAllowed : ℕ → ℕ → (ℕ → ℕ) → Type 0
NumbersAllowed bound = PartsAllowed (λ _. IsBetween 0 (Some bound))

-- the output or the colour of a state: yes or no, or a number
abbrev pub out_part : Bool → ℕ → List ℕ
out_part answers o = if answers then ended_answer (nat_eq o 1) else ended_number 32 o

abbrev pub OutAllowed : ℕ → ℕ → Type 0
OutAllowed bound o = IsBetween 0 (Some bound) o

-- what the line of a state says: its output, and its targets by letter
abbrev pub Line : Type 0
Line = ℕ × (ℕ → ℕ)

-- the line of a state: its number, then its output, then its targets
abbrev pub line_part : Bool → ℕ → ℕ → Line → List ℕ
line_part answers width q = after_word (numeral q ++ codes " ") (pair_text (out_part answers) (λ _. numbers_text width))

abbrev pub LineAllowed : ℕ → ℕ → ℕ → Line → Type 0
LineAllowed outs bound width = PairAllowed (OutAllowed outs) (λ _. NumbersAllowed bound width)

-- lines of so many states
abbrev pub lines_part : Bool → ℕ → ℕ → (ℕ → Line) → List ℕ
lines_part answers width = parts_text (line_part answers width)

abbrev pub LinesAllowed : ℕ → ℕ → ℕ → ℕ → (ℕ → Line) → Type 0
LinesAllowed outs bound width = PartsAllowed (λ _. LineAllowed outs bound width)

-- the sizes that the first lines say
pub record Sizes : Type 0 where
  pub base : ℕ
  pub tracks : ℕ
  pub ints : ℕ
  pub fracs : ℕ

-- the last line
abbrev pub end_part : Unit {0} → List ℕ
end_part = after_word (codes "end\n") (λ _. [])

-- the lines of the fraction states, and the last
abbrev pub frac_lines_part : Sizes → ((ℕ → Line) × Unit {0}) → List ℕ
frac_lines_part z = pair_text (lines_part true (z.base ^ z.tracks) z.fracs) (λ _. end_part)

abbrev pub FracLinesAllowed : Sizes → ((ℕ → Line) × Unit {0}) → Type 0
FracLinesAllowed z = PairAllowed (LinesAllowed 2 z.fracs (z.base ^ z.tracks) z.fracs) (λ _. IsAny)

-- the lines of the integer states, and those after them
abbrev pub int_lines_part : Sizes → ((ℕ → Line) × ((ℕ → Line) × Unit {0})) → List ℕ
int_lines_part z = pair_text (lines_part (nat_eq z.fracs 0) (z.base ^ z.tracks) z.ints) (λ _. frac_lines_part z)

abbrev pub IntLinesAllowed : Sizes → ((ℕ → Line) × ((ℕ → Line) × Unit {0})) → Type 0
IntLinesAllowed z = PairAllowed (LinesAllowed (out_bound z.fracs) z.ints (z.base ^ z.tracks) z.ints) (λ _. FracLinesAllowed z)

-- roots, lines of integer states, lines of fraction states, the last line
abbrev pub Values : Type 0
Values = (ℕ → ℕ) × ((ℕ → Line) × ((ℕ → Line) × Unit {0}))

-- the lines after the first ones
abbrev pub rest_part : Sizes → Values → List ℕ
rest_part z = after_word (codes "roots ") (pair_text (numbers_text (2 ^ z.tracks)) (λ _. int_lines_part z))

abbrev pub RestAllowed : Sizes → Values → Type 0
RestAllowed z = PairAllowed (NumbersAllowed z.ints (2 ^ z.tracks)) (λ _. IntLinesAllowed z)

-- the sizes of a table, and what its lines say
unfoldable pub table_sizes : Table → Sizes
table_sizes t = record { base = t.base; tracks = t.tracks; ints = ints t; fracs = fracs t }

unfoldable pub int_values : Table → ℕ → Line
int_values t q = (slice_index t.outs q, λ l. slice_index t.rows (q * letters t + l))

unfoldable pub frac_values : Table → ℕ → Line
frac_values t q = (slice_index t.colours q, λ l. slice_index t.frac_rows (q * letters t + l))

unfoldable pub table_values : Table → Values
table_values t = ((λ i. slice_index t.roots (0 + i)), ((λ q. int_values t q), ((λ q. frac_values t q), tt)))

-- the sizes that first lines say
unfoldable pub head_sizes : Head → Sizes
head_sizes h = record { base = h.base; tracks = length h.variables; ints = h.ints; fracs = h.fracs }
