-- The variables that a formula may name, with their sorts. The place of a variable in the list is its place in the core formula.
use Rattle.std.specs.Prelude.{ℕ, nat_eq, List, ◌++◌, map, Option, None, Some, position, slice_get}
use Rattle.std.specs.Option.{option_map}
use Rattle.std.specs.Cmp.Lexicographic.{pointwise}
use Rattle.lash_model.specs.Formulas.{Sort}
use Rattle.script_syntax.specs.Trees.{DeclarationShape}

abbrev pub Scope : Type 0
Scope = List (List ℕ × Sort)

-- the place of a name, if it is declared
abbrev pub place_of : Scope → List ℕ → Option ℕ
place_of scope name = position (λ v. pointwise nat_eq name v.0) scope

abbrev pub variable_of : DeclarationShape → List ℕ × Sort
variable_of d = (d.name.left, d.sort)

-- the scope with variables declared behind those that were
abbrev pub with_declared : Scope → List DeclarationShape → Scope
with_declared scope ds = scope ++ map variable_of ds

-- the sort of a name, if it is declared
abbrev pub sort_at : Scope → Option ℕ → Option Sort
sort_at scope None = None
sort_at scope (Some place) = option_map (λ v. v.1) (slice_get scope place)

abbrev pub sort_named : Scope → List ℕ → Option Sort
sort_named scope name = sort_at scope (place_of scope name)
