-- The parts of the format, each with what ends it, as a reader takes them from byte to byte.
use Rattle.std.specs.Prelude.{ℕ, ◌≤◌, ◌<◌, ◌≡◌, Bool, List, [], ◌∷◌, ◌++◌, codes, Option, None, Some, if◌then◌else◌}
use Rattle.std.specs.List.{AllByRecursion}
use Rattle.lash_model.specs.Formulas.{Sort, Int, Real}
use Rattle.formula_core.specs.Names.{IsVariableName}
use Rattle.automaton_texts.specs.Text.{sort_text, variables_text}
use Rattle.text_laws.specs.Numerals.{numeral}
use Rattle.text_laws.specs.Reading.{pair_text, PairAllowed, IsAny}

-- a number and the byte that ends it
abbrev pub ended_number : ℕ → ℕ → List ℕ
ended_number ending n = numeral n ++ ending ∷ []

-- at least low, and below the bound if there is one
abbrev pub IsBetween : ℕ → Option ℕ → ℕ → Type 0
IsBetween low None n = low ≤ n
IsBetween low (Some bound) n = (low ≤ n) × (n < bound)

-- a name and the space that ends it
abbrev pub ended_name : List ℕ → List ℕ
ended_name name = name ++ codes " "

-- a variable's name that is none of the earlier ones
abbrev pub IsNewName : List (List ℕ) → List ℕ → Type 0
IsNewName earlier name = IsVariableName name × AllByRecursion (λ other. name ≡ other → ⊥) earlier

abbrev pub sort_word : Sort → List ℕ
sort_word Int = codes "int"
sort_word Real = codes "real"

-- yes or no and the space that ends it
abbrev pub ended_answer : Bool → List ℕ
ended_answer positive = if positive then codes "+ " else codes "- "

-- a variable: a space, its name, a space, its sort
abbrev pub item_text : (List ℕ × Sort) → List ℕ
item_text v = codes " " ++ (v.0 ++ sort_text v.1)

-- its name is none of the earlier ones
abbrev pub IsNewItem : List (List ℕ) → (List ℕ × Sort) → Type 0
IsNewItem earlier v = IsNewName earlier v.0

-- the same, name and sort one after the other
abbrev pub named_sort : (List ℕ × Sort) → List ℕ
named_sort = pair_text ended_name (λ _. sort_word)

abbrev pub IsNewNamed : List (List ℕ) → (List ℕ × Sort) → Type 0
IsNewNamed earlier = PairAllowed (IsNewName earlier) (λ _. IsAny)

-- all variables and the end of the line
abbrev pub ended_variables : List (List ℕ × Sort) → List ℕ
ended_variables vs = variables_text vs ++ codes "\n"

-- the names read so far, the last first
abbrev pub names_onto : List (List ℕ) → List (List ℕ × Sort) → List (List ℕ)
names_onto earlier [] = earlier
names_onto earlier (v ∷ vs) = names_onto (v.0 ∷ earlier) vs
