-- Lists of variables: names with sorts, by place.
use Rattle.std.specs.Prelude.{ℕ, ◌≡◌, List, map, All}
use Rattle.std.specs.List.{AllPairs}
use Rattle.lash_model.specs.Formulas.{Sort, Int, Real}
use Rattle.formula_core.specs.Names.{IsVariableName}
use Rattle.formula_core.specs.declared.sort.Sort.{Sort as DeclaredSort}
use Rattle.formula_core.specs.declared.sort.Sort.TheVariants.{Int as DeclaredInt, Real as DeclaredReal}

-- the sort of the model
abbrev pub sort_of : DeclaredSort → Sort
sort_of DeclaredInt = Int
sort_of DeclaredReal = Real

abbrev pub names_of : List (List ℕ × Sort) → List (List ℕ)
names_of vs = map (λ v. v.0) vs

abbrev pub sorts_of : List (List ℕ × Sort) → List Sort
sorts_of vs = map (λ v. v.1) vs

-- each name is a variable's, and no name stands twice
pub record AreVariables (names : List (List ℕ)) : Type 0 where
  pub named : All IsVariableName names
  pub distinct : AllPairs (λ a b. a ≡ b → ⊥) names
