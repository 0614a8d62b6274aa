-- The spellings of the format: the texts of all headers and tables in range, of whatever size. Own.
use Rattle.std.specs.Prelude.{ℕ, ◌+◌, ◌*◌, ◌^◌, ◌<◌, ◌≤◌, ◌≡◌, Bool, true, false, ◌||◌}
use Rattle.std.specs.Prelude.{List, [], ◌∷◌, ◌++◌, length, slice_index, codes, All, nat_eq, if◌then◌else◌}
use Rattle.std.specs.List.{AllByRecursion}
use Rattle.lash_model.specs.Formulas.{Sort, Int, Real}
use Rattle.lash_model.specs.Tables.{Table, letters, ints, fracs, out_bound}
use Rattle.automaton_texts.specs.Text.{texts_upto, answer_text, variables_text, line}
use Rattle.formula_core.specs.Names.{IsVariableName}
use Rattle.text_laws.specs.Numerals.{numeral, numeral_after}

-- what the first lines say, up to the numbers of states
pub record Head : Type 0 where
  pub base : ℕ
  pub variables : List (List ℕ × Sort)
  pub ints : ℕ
  pub fracs : ℕ

abbrev pub is_real : Sort → Bool
is_real Int = false
is_real Real = true

-- some variable is real
abbrev pub has_real : List (List ℕ × Sort) → Bool
has_real [] = false
has_real (v ∷ vs) = is_real v.1 || has_real vs

-- each name is a variable's, and is none of those before it
abbrev pub AreNew : List (List ℕ) → List (List ℕ × Sort) → Type 0
AreNew earlier [] = Unit {0}
AreNew earlier (v ∷ vs) = IsVariableName v.0 × AllByRecursion (λ name. v.0 ≡ name → ⊥) earlier × AreNew (v.0 ∷ earlier) vs

-- a base from 2 to 16, variables of distinct names, at least one integer state, and fraction states exactly if some variable is real
pub record IsHead (h : Head) : Type 0 where
  pub base_low : 2 ≤ h.base
  pub base_high : h.base ≤ 16
  pub names : AreNew [] h.variables
  pub some_int : 1 ≤ h.ints
  pub some_frac : has_real h.variables ≡ true → 1 ≤ h.fracs
  pub no_frac : has_real h.variables ≡ false → h.fracs ≡ 0

abbrev pub counted_line : List ℕ → ℕ → List ℕ
counted_line word n = line word (numeral_after n)

-- the first lines
unfoldable pub head_text : Head → List ℕ
head_text h = codes "lash 1\n" ++ (counted_line (codes "base") h.base ++ (line (codes "vars") (variables_text h.variables)
    ++ (counted_line (codes "int") h.ints ++ (if has_real h.variables then counted_line (codes "frac") h.fracs else []))))

-- numbers after spaces, so many of a list from a place on
abbrev pub entries_text : List ℕ → ℕ → ℕ → List ℕ
entries_text xs start count = texts_upto (λ i. numeral_after (slice_index xs (start + i))) count

abbrev pub output_text : Table → ℕ → List ℕ
output_text t q = if nat_eq (fracs t) 0 then answer_text (nat_eq (slice_index t.outs q) 1) else numeral_after (slice_index t.outs q)

abbrev pub colour_text : Table → ℕ → List ℕ
colour_text t q = answer_text (nat_eq (slice_index t.colours q) 1)

-- the line of a state: its number, its output or colour, its targets
abbrev pub int_state_text : Table → ℕ → List ℕ
int_state_text t q = numeral q ++ (output_text t q ++ (entries_text t.rows (q * letters t) (letters t) ++ codes "\n"))

abbrev pub frac_state_text : Table → ℕ → List ℕ
frac_state_text t q = numeral q ++ (colour_text t q ++ (entries_text t.frac_rows (q * letters t) (letters t) ++ codes "\n"))

-- the lines after the first ones
unfoldable pub rest_text : Table → List ℕ
rest_text t = line (codes "roots") (entries_text t.roots 0 (2 ^ t.tracks))
    ++ (texts_upto (int_state_text t) (ints t) ++ (texts_upto (frac_state_text t) (fracs t) ++ codes "end\n"))

abbrev pub head_of : List (List ℕ × Sort) → Table → Head
head_of vs t = record { base = t.base; variables = vs; ints = ints t; fracs = fracs t }

-- the text of variables and a table
abbrev pub spelling : List (List ℕ × Sort) → Table → List ℕ
spelling vs t = head_text (head_of vs t) ++ rest_text t

-- the table is of the sizes that the first lines say: its lists have these lengths, and all their entries are in range
pub record IsRestOf (h : Head) (t : Table) : Type 0 where
  pub base : t.base ≡ h.base
  pub tracks : t.tracks ≡ length h.variables
  pub ints : length t.outs ≡ h.ints
  pub fracs : length t.colours ≡ h.fracs
  pub roots_count : length t.roots ≡ 2 ^ t.tracks
  pub rows_count : length t.rows ≡ length t.outs * t.base ^ t.tracks
  pub frac_rows_count : length t.frac_rows ≡ length t.colours * t.base ^ t.tracks
  pub roots_in : All (λ q. q < length t.outs) t.roots
  pub rows_in : All (λ q. q < length t.outs) t.rows
  pub outs_in : All (λ q. q < out_bound (length t.colours)) t.outs
  pub frac_rows_in : All (λ q. q < length t.colours) t.frac_rows
  pub colours_in : All (λ c. c < 2) t.colours

-- the first lines that they say are in range, and the table is of those sizes
pub record IsInRange (vs : List (List ℕ × Sort)) (t : Table) : Type 0 where
  pub head : IsHead (head_of vs t)
  pub rest : IsRestOf (head_of vs t) t
