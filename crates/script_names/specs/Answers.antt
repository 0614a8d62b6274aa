-- What the judges of names and limits answer.
use Rattle.std.specs.Prelude.{◌≡◌, ◌≤◌, List, [], ◌∷◌, ◌++◌, take, length, Option, None, Some, Result, Ok, Err}
use Rattle.script_syntax.specs.Trees.{DeclarationShape}
use Rattle.script_names.specs.Scopes.{Scope, place_of, variable_of, with_declared}
use Rattle.script_names.specs.Faults.{repeated, declared_fault}
use Rattle.script_names.specs.declared.names.FaultAt.{FaultAt}
use Rattle.script_names.specs.declared.names.NameError.{NameError}
use Rattle.script_names.specs.declared.names.NameError.TheVariants.{Fault, Memory}

-- the fault that is there; of want of memory nothing is said
abbrev pub IsRefused : Option FaultAt → NameError → Type 0
IsRefused fault (Fault f) = fault ≡ Some f
IsRefused fault Memory = Unit

-- no fault at Ok, and the fault at Err
abbrev pub IsChecked : {U : Type 0} → Option FaultAt → Result U NameError → Type 0
IsChecked fault (Ok u) = fault ≡ None
IsChecked fault (Err e) = IsRefused fault e

-- what is in front stays as it was
pub record IsBehind (before after : Scope) : Type 0 where
  pub count : length before ≤ length after
  pub front : take (length before) after ≡ before

-- one variable more at Ok; at Err the scope is as it was, and the variable is repeated or memory is wanting
abbrev pub IsDeclared : {U : Type 0} → Scope → DeclarationShape → Scope → Result U NameError → Type 0
IsDeclared before d after (Ok u) = (repeated d.name (place_of before d.name.left) ≡ None) × (after ≡ before ++ variable_of d ∷ [])
IsDeclared before d after (Err e) = IsRefused (repeated d.name (place_of before d.name.left)) e × (after ≡ before)

-- all the variables at Ok; at Err the first repeated one, unless memory is wanting
abbrev pub AreDeclared : {U : Type 0} → Scope → List DeclarationShape → Scope → Result U NameError → Type 0
AreDeclared before ds after (Ok u) = (declared_fault before ds ≡ None) × (after ≡ with_declared before ds)
AreDeclared before ds after (Err e) = IsRefused (declared_fault before ds) e × IsBehind before after
