-- Names of variables and of sets: a letter of ASCII or an underscore, then letters, underscores and digits; no keyword.
use Rattle.std.specs.Prelude.{ℕ, ◌≡◌, ◌⊎◌, Bool, ◌||◌, ◌&&◌, nat_le, nat_eq, IsTrue, List, [], ◌∷◌, ◌++◌, codes}
use Rattle.std.specs.List.{AllByRecursion, list_all}

-- a letter or an underscore
abbrev pub begins_word : ℕ → Bool
begins_word b = ((nat_le 65 b && nat_le b 90) || (nat_le 97 b && nat_le b 122)) || nat_eq b 95

-- a digit
abbrev pub is_digit : ℕ → Bool
is_digit b = nat_le 48 b && nat_le b 57

-- a byte that goes on a word
abbrev pub is_in_word : ℕ → Bool
is_in_word b = begins_word b || is_digit b

-- bytes of a word, of which the first is no digit
abbrev pub IsWord : List ℕ → Type 0
IsWord [] = ⊥
IsWord (b ∷ bs) = IsTrue (begins_word b) × IsTrue (list_all is_in_word bs)

-- the words that are no names
unfoldable pub keywords : List (List ℕ)
keywords = codes "show" ∷ codes "set" ∷ codes "print" ∷ codes "solve" ∷ codes "test" ∷ codes "equal" ∷ codes "subset" ∷ codes "check" ∷ codes "loop"
    ∷ codes "when" ∷ codes "do" ∷ codes "int" ∷ codes "real" ∷ codes "exists" ∷ codes "forall" ∷ codes "and" ∷ codes "or" ∷ codes "not"
    ∷ codes "true" ∷ codes "false" ∷ codes "mod" ∷ []

-- a name: a word that is no keyword
pub record IsName (name : List ℕ) : Type 0 where
  pub word : IsWord name
  pub free : AllByRecursion (λ k. k ≡ name → ⊥) keywords

-- a variable's name is a name, or a name with a single quote mark behind it
abbrev pub IsVariableName : List ℕ → Type 0
IsVariableName name = IsName name ⊎ ((plain : List ℕ) × IsName plain × (name ≡ plain ++ codes "'"))
