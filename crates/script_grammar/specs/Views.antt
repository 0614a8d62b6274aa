-- Kinds of tokens as the grammar sees them: a view gives what a token holds, and a spelling gives the token back.
use Rattle.std.specs.Prelude.{ℕ, zero, suc, eqb, List, [], ◌∷◌, Option, None, Some}
use mathlib.Core.Bool.{Bool, true, false}
use Rattle.parser_laws.specs.Parsing.{Pair, pick, Lang, seen, token}
use Rattle.parser_laws.specs.Placed.{Placed, with_place, placed_view, placed_mk}
use Rattle.script_tokens.specs.declared.kind.Kind.{Kind}
use Rattle.script_tokens.specs.declared.kind.Kind.TheVariants as kind
use Rattle.script_tokens.specs.Kinds.{number_of}
use Rattle.script_tokens.specs.Tokens.{Token, Name, Number, Sign, Bad, PlacedToken}
use Rattle.lash_model.specs.Formulas.{Sort, Int, Real}

-- the words of quantified formulas
pub data Quantifier : Type 0 where
  Exists : Quantifier
  Forall : Quantifier

pub data Adding : Type 0 where
  Plus : Adding
  Minus : Adding

pub data Relation : Type 0 where
  AtMost : Relation
  Below : Relation
  AtLeast : Relation
  Above : Relation
  Equal : Relation
  Unequal : Relation

abbrev pub spell_quantifier : Quantifier → Kind
spell_quantifier Exists = kind.Exists
spell_quantifier Forall = kind.Forall

abbrev pub spell_sort : Sort → Kind
spell_sort Int = kind.Int
spell_sort Real = kind.Real

abbrev pub spell_adding : Adding → Kind
spell_adding Plus = kind.Plus
spell_adding Minus = kind.Minus

abbrev pub spell_truth : Bool → Kind
spell_truth true = kind.True
spell_truth false = kind.False

abbrev pub spell_relation : Relation → Kind
spell_relation AtMost = kind.AtMost
spell_relation Below = kind.Below
spell_relation AtLeast = kind.AtLeast
spell_relation Above = kind.Above
spell_relation Equal = kind.Equals
spell_relation Unequal = kind.Unequal

abbrev pub entry : {A : Type 0} → (A → Kind) → A → Pair Kind A
entry spell a = record { left = spell a; right = a }

abbrev pub same_kind : Kind → Kind → Bool
same_kind j k = eqb (number_of j) (number_of k)

abbrev pub lookup : {A : Type 0} → List (Pair Kind A) → Kind → Option A
lookup [] j = None
lookup (x ∷ xs) j = pick (same_kind j x.left) (Some x.right) (lookup xs j)

abbrev pub table_view : {A : Type 0} → List (Pair Kind A) → Token → Option A
table_view xs (Name n) = None
table_view xs (Number n) = None
table_view xs (Sign j) = lookup xs j
table_view xs Bad = None

abbrev pub name_view : Token → Option (List ℕ)
name_view (Name n) = Some n
name_view (Number n) = None
name_view (Sign j) = None
name_view Bad = None

abbrev pub number_view : Token → Option ℕ
number_view (Name n) = None
number_view (Number n) = Some n
number_view (Sign j) = None
number_view Bad = None

abbrev pub one_less : ℕ → Option ℕ
one_less zero = None
one_less (suc n) = Some n

-- a number that is not zero, as the number before it
abbrev pub positive_view : Token → Option ℕ
positive_view (Name n) = None
positive_view (Number n) = one_less n
positive_view (Sign j) = None
positive_view Bad = None

abbrev pub quantifier_view : Token → Option Quantifier
quantifier_view = table_view (entry spell_quantifier Exists ∷ entry spell_quantifier Forall ∷ [])

abbrev pub sort_view : Token → Option Sort
sort_view = table_view (entry spell_sort Int ∷ entry spell_sort Real ∷ [])

abbrev pub adding_view : Token → Option Adding
adding_view = table_view (entry spell_adding Plus ∷ entry spell_adding Minus ∷ [])

abbrev pub truth_view : Token → Option Bool
truth_view = table_view (entry spell_truth true ∷ entry spell_truth false ∷ [])

abbrev pub relation_view : Token → Option Relation
relation_view = table_view (entry spell_relation AtMost ∷ entry spell_relation Below ∷ entry spell_relation AtLeast ∷ entry spell_relation Above ∷ entry spell_relation Equal ∷ entry spell_relation Unequal ∷ [])

abbrev pub place_if : Bool → ℕ → Option ℕ
place_if true p = Some p
place_if false p = None

abbrev pub is_kind : Kind → Token → Bool
is_kind k (Name n) = false
is_kind k (Number n) = false
is_kind k (Sign j) = same_kind j k
is_kind k Bad = false

-- of a fixed keyword or sign only the place is held
abbrev pub place_view : Kind → PlacedToken → Option ℕ
place_view k t = place_if (is_kind k t.token) t.place

abbrev pub at : Kind → ℕ → PlacedToken
at k p = record { token = Sign k; place = p }

-- whether a token is of a kind, is a name, a number, and so on
abbrev pub is : Kind → PlacedToken → Bool
is k = seen (place_view k)

abbrev pub is_name : PlacedToken → Bool
is_name = seen (placed_view name_view)

abbrev pub is_number : PlacedToken → Bool
is_number = seen (placed_view number_view)

abbrev pub is_adding : PlacedToken → Bool
is_adding = seen (placed_view adding_view)

abbrev pub is_truth : PlacedToken → Bool
is_truth = seen (placed_view truth_view)

abbrev pub is_quantifier : PlacedToken → Bool
is_quantifier = seen (placed_view quantifier_view)

-- one token with its place
abbrev pub one_token : {A : Type 0} → (Token → Option A) → (A → Token) → Lang PlacedToken
one_token view mk = token (placed_view view) (placed_mk mk)

abbrev pub sign : Kind → Lang PlacedToken
sign k = token (place_view k) (at k)

abbrev pub name : Lang PlacedToken
name = one_token name_view (λ n. Name n)

abbrev pub number : Lang PlacedToken
number = one_token number_view (λ n. Number n)

abbrev pub positive : Lang PlacedToken
positive = one_token positive_view (λ n. Number (suc n))

abbrev pub adding : Lang PlacedToken
adding = one_token adding_view (λ a. Sign (spell_adding a))

abbrev pub relation : Lang PlacedToken
relation = one_token relation_view (λ a. Sign (spell_relation a))

abbrev pub truth : Lang PlacedToken
truth = one_token truth_view (λ a. Sign (spell_truth a))

abbrev pub sort : Lang PlacedToken
sort = one_token sort_view (λ a. Sign (spell_sort a))

abbrev pub quantifier : Lang PlacedToken
quantifier = one_token quantifier_view (λ a. Sign (spell_quantifier a))
