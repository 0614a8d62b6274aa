-- The assignments of a loop: their names, and what each variable becomes at a turn.
use Rattle.std.specs.Prelude.{◌≡◌, ℕ, ◌+◌, ◌*◌, ◌^◌, ◌/◌, ◌%◌, ◌<◌, slice_index_or, Bool, false, ◌||◌, nat_eq, nat_lt, unsigned_abs, List, [], ◌∷◌, ◌++◌, length, Option, None, Some, Result, Ok, Err, ℤ, if◌then◌else◌}
use Rattle.integer_laws.specs.Vectors.{vector}
use Rattle.lash_model.specs.Formulas.{Sort, Int, Linear}
use Rattle.formula_core.specs.Terms.{coefficient_at}
use Rattle.term_substitution.specs.Substitution.{variable_term, zero_term}
use Rattle.script_syntax.specs.Trees.{Named, SignedShape}
use Rattle.script_statements.specs.Loops.{AssignmentShape}
use Rattle.script_names.specs.Scopes.{Scope, place_of, sort_named}
use Rattle.script_names.specs.Faults.{or_else, unknown, repeated, argument_fault}
use Rattle.script_names.specs.Answers.{IsRefused}
use Rattle.script_names.specs.declared.names.FaultAt.{FaultAt}
use Rattle.script_names.specs.declared.names.NameError.{NameError}
use Rattle.script_meaning.specs.Core.{argument, constant_of}
use Rattle.script_meaning.specs.Limits.{term_passes}

-- an assigned variable is declared, and was not assigned before
abbrev pub target_fault : Scope → Scope → Named → Option FaultAt
target_fault scope assigned name = or_else (unknown name (place_of scope name.left)) (repeated name (place_of assigned name.left))

-- an integer is set to a term of integers
abbrev pub value_fault : Scope → Option Sort → List SignedShape → Option FaultAt
value_fault scope None t = None
value_fault scope (Some sort) t = argument_fault sort scope t

-- the scope of the assigned variables with one more
abbrev pub with_assigned : Scope → Named → Scope
with_assigned assigned name = assigned ++ (name.left, Int) ∷ []

abbrev pub assignment_fault : Scope → Scope → AssignmentShape → Option FaultAt
assignment_fault scope assigned a = or_else (target_fault scope assigned a.name) (value_fault scope (sort_named scope a.name.left) a.term)

-- the first wrong name of assignments, where these variables were assigned before
abbrev pub assignments_fault : Scope → Scope → List AssignmentShape → Option FaultAt
assignments_fault scope assigned [] = None
assignments_fault scope assigned (a ∷ xs) = or_else (assignment_fault scope assigned a) (assignments_fault scope (with_assigned assigned a.name) xs)

-- no fault of one assignment at Ok, which is then among those before
abbrev pub IsAssigned : {U : Type 0} → Scope → Scope → AssignmentShape → Scope → Result U NameError → Type 0
IsAssigned scope before a after (Ok u) = (assignment_fault scope before a ≡ None) × (after ≡ with_assigned before a.name)
IsAssigned scope before a after (Err e) = IsRefused (assignment_fault scope before a) e

-- some number of a term passes the limit of literals
abbrev pub assignments_literal : List AssignmentShape → Bool
assignments_literal [] = false
assignments_literal (a ∷ xs) = term_passes a.term || assignments_literal xs

-- some constant is more than 2 ^ 40 in magnitude
abbrev pub shift_passes : List AssignmentShape → Bool
shift_passes [] = false
shift_passes (a ∷ xs) = nat_lt (2 ^ 40) (unsigned_abs (constant_of a.term)) || shift_passes xs

-- how many parts the terms have together
abbrev pub assigned_parts : List AssignmentShape → ℕ
assigned_parts [] = 0
assigned_parts (a ∷ xs) = length a.term + assigned_parts xs

abbrev pub is_place : ℕ → Option ℕ → Bool
is_place row None = false
is_place row (Some place) = nat_eq place row

-- what the variable at a place is set to, if it is assigned
abbrev pub assigned_to : Scope → List AssignmentShape → ℕ → Option (List SignedShape)
assigned_to scope [] row = None
assigned_to scope (a ∷ xs) row = if is_place row (place_of scope a.name.left) then Some a.term else assigned_to scope xs row

-- a variable that is not assigned stays
abbrev pub becomes : Scope → ℕ → Option (List SignedShape) → Linear
becomes scope row None = variable_term row
becomes scope row (Some t) = argument scope t

-- what the variable at a place becomes
abbrev pub next_term : Scope → List AssignmentShape → ℕ → Linear
next_term scope xs row = becomes scope row (assigned_to scope xs row)

-- the coefficients of all variables, one row behind the other
abbrev pub next_entries : Scope → List AssignmentShape → List ℤ
next_entries scope xs = vector (λ at. coefficient_at (next_term scope xs (at / length scope)).terms (at % length scope)) (length scope * length scope)

-- the constants
abbrev pub next_shift : Scope → List AssignmentShape → List ℤ
next_shift scope xs = vector (λ row. (next_term scope xs row).constant) (length scope)

-- what the variables become, in their order
pub record AreNext (scope : Scope) (xs : List AssignmentShape) (terms : List Linear) : Type 0 where
  pub count : length terms ≡ length scope
  pub each : (row : ℕ) → row < length scope → slice_index_or terms row zero_term ≡ next_term scope xs row

-- the entries of the matrix of such terms, and the shift
abbrev pub entries_of : List Linear → ℕ → List ℤ
entries_of terms count = vector (λ at. coefficient_at (slice_index_or terms (at / length terms) zero_term).terms (at % length terms)) count

abbrev pub constants_of : List Linear → ℕ → List ℤ
constants_of terms count = vector (λ row. (slice_index_or terms row zero_term).constant) count
