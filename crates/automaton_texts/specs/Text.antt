-- The text of an automaton (own): a line for the base, the variables, the numbers of states and the roots, then a line for each
-- state with its output or colour and its targets. Lines end with LF, words on a line are parted by one space.
use Rattle.std.specs.Prelude.{ℕ, zero, suc, ◌+◌, ◌*◌, ◌^◌, Bool, List, [], ◌∷◌, ◌++◌, slice_index, codes, decimal, nat_eq, if◌then◌else◌}
use Rattle.lash_model.specs.Formulas.{Sort, Int, Real}
use Rattle.lash_model.specs.Tables.{Table, letters, ints, fracs}

-- the texts of 0, of 1 and so on, up to that of count - 1, one after another
abbrev pub texts_upto : (ℕ → List ℕ) → ℕ → List ℕ
texts_upto text zero = []
texts_upto text (suc count) = texts_upto text count ++ text count

-- a number behind a space
abbrev pub number_text : ℕ → List ℕ
number_text n = codes " " ++ decimal n

-- yes and no behind a space
abbrev pub answer_text : Bool → List ℕ
answer_text positive = if positive then codes " +" else codes " -"

abbrev pub sort_text : Sort → List ℕ
sort_text Int = codes " int"
sort_text Real = codes " real"

-- a name and its sort, each behind a space, for each variable
abbrev pub variables_text : List (List ℕ × Sort) → List ℕ
variables_text [] = []
variables_text (v ∷ vs) = (codes " " ++ (v.0 ++ sort_text v.1)) ++ variables_text vs

-- a line of a word and others behind it
abbrev pub line : List ℕ → List ℕ → List ℕ
line word others = word ++ (others ++ codes "\n")

abbrev pub number_line : List ℕ → ℕ → List ℕ
number_line word n = line word (number_text n)

-- the line of the number of fraction states, where there are any
abbrev pub fracs_line : ℕ → List ℕ
fracs_line n = if nat_eq n 0 then [] else number_line (codes "frac") n

-- an output is a truth value in a diagram, and else a fraction state
abbrev pub out_text : Table → ℕ → List ℕ
out_text t out = if nat_eq (fracs t) 0 then answer_text (nat_eq out 1) else number_text out

-- the targets of state q by rising letter, out of flat rows for so many letters
abbrev pub targets_text : List ℕ → ℕ → ℕ → List ℕ
targets_text rows width q = texts_upto (λ letter. number_text (slice_index rows (q * width + letter))) width

-- the line of an integer state: its number, its output, its targets
abbrev pub int_line : Table → ℕ → List ℕ
int_line t q = decimal q ++ (out_text t (slice_index t.outs q) ++ (targets_text t.rows (letters t) q ++ codes "\n"))

-- the line of a fraction state: its number, its colour, its targets
abbrev pub frac_line : Table → ℕ → List ℕ
frac_line t q = decimal q ++ (answer_text (nat_eq (slice_index t.colours q) 1) ++ (targets_text t.frac_rows (letters t) q ++ codes "\n"))

-- the lines of the format, of the base and of the variables
unfoldable pub heading : ℕ → List (List ℕ × Sort) → List ℕ
heading base vs = codes "lash 1\n" ++ (number_line (codes "base") base ++ line (codes "vars") (variables_text vs))

-- the roots by rising sign vector
abbrev pub roots_text : Table → List ℕ
roots_text t = texts_upto (λ sign. number_text (slice_index t.roots sign)) (2 ^ t.tracks)

-- the lines of the numbers of states and of the roots
unfoldable pub counts : Table → List ℕ
counts t = number_line (codes "int") (ints t) ++ (fracs_line (fracs t) ++ line (codes "roots") (roots_text t))

-- the whole text, for the variables' names and sorts and a table: the heading, the counts, a line for each integer state and for
-- each fraction state, and a line for the end
unfoldable pub text_of : List (List ℕ × Sort) → Table → List ℕ
text_of vs t = heading t.base vs ++ (counts t ++ (texts_upto (int_line t) (ints t) ++ (texts_upto (frac_line t) (fracs t) ++ codes "end\n")))
