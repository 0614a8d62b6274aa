-- The values of terms, and what relations say of them (the usual meaning). A vector of fractions is a list of numerators ns over one
-- denominator d, and a value is a numerator over d.
use Rattle.std.specs.Prelude.{◌≡◌, ℕ, List, [], ◌∷◌, Bool, Option, None, Some, ℤ, pos, neg_ℤ, ◌+ℤ◌, ◌*ℤ◌, ◌≤ℤ◌, ◌<ℤ◌, if◌then◌else◌}
use Rattle.std.specs.List.{slice_index_or}
use Rattle.script_grammar.specs.Views.{Relation, AtMost, Below, AtLeast, Above, Equal, Unequal}
use Rattle.script_syntax.specs.Trees.{PartShape, Constant, Scaled, Variable, SignedShape}
use Rattle.script_names.specs.Scopes.{Scope, place_of}

-- the entry at a place; names out of scope and places past the end count as 0
abbrev pub entry_at : List ℤ → Option ℕ → ℤ
entry_at ns None = pos 0
entry_at ns (Some place) = slice_index_or ns place (pos 0)

-- the value of a part without its sign
abbrev pub part_value : Scope → List ℤ → ℕ → PartShape → ℤ
part_value scope ns d (Constant n) = pos n *ℤ pos d
part_value scope ns d (Scaled n name) = pos n *ℤ entry_at ns (place_of scope name.left)
part_value scope ns d (Variable name) = entry_at ns (place_of scope name.left)

abbrev pub with_minus : Bool → ℤ → ℤ
with_minus minus x = if minus then neg_ℤ x else x

-- the value of a term: the sum of its parts
abbrev pub value_of : Scope → List ℤ → ℕ → List SignedShape → ℤ
value_of scope ns d [] = pos 0
value_of scope ns d (s ∷ ss) = with_minus s.minus (part_value scope ns d s.part) +ℤ value_of scope ns d ss

-- the relation holds between two values
abbrev pub Compares : Relation → ℤ → ℤ → Type 0
Compares AtMost x y = x ≤ℤ y
Compares Below x y = x <ℤ y
Compares AtLeast x y = y ≤ℤ x
Compares Above x y = y <ℤ x
Compares Equal x y = x ≡ y
Compares Unequal x y = x ≡ y → ⊥
