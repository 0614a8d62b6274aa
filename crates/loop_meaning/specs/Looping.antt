-- What a loop of a script is: its names, its limits, its variables and its body.
use Rattle.std.specs.Prelude.{◌≡◌, ℕ, ◌+◌, ◌≤◌, Bool, ◌||◌, nat_lt, List, [], ◌∷◌, ◌++◌, All, map, length, codes, Option, None, Some, Result, Ok, Err, if◌then◌else◌}
use Rattle.lash_model.specs.Formulas.{Sort, Formula}
use Rattle.formula_core.specs.Names.{IsName}
use Rattle.script_syntax.specs.Trees.{DeclarationShape}
use Rattle.script_statements.specs.Loops.{constraint_of, assignment_of}
use Rattle.script_statements.specs.Statements.{TurnShape}
use Rattle.script_statements.specs.declared.tree.Loop.{Loop as DeclaredLoop}
use Rattle.script_names.specs.Kept.{KeptSet}
use Rattle.script_names.specs.Scopes.{Scope, with_declared}
use Rattle.script_names.specs.Faults.{or_else, declared_fault, tree_fault}
use Rattle.script_names.specs.Answers.{IsRefused}
use Rattle.script_names.specs.declared.names.FaultAt.{FaultAt}
use Rattle.script_names.specs.declared.names.NameError.{NameError}
use Rattle.script_meaning.specs.Core.{core}
use Rattle.script_meaning.specs.Limits.{literal_passes, size_of, terms_limit}
use Rattle.script_meaning.specs.Resolving.{first_passed}
use Rattle.script_meaning.specs.declared.limits.Which.{Which}
use Rattle.script_meaning.specs.declared.limits.Which.TheVariants.{Literal, LoopVariables, Constant}
use Rattle.script_meaning.specs.declared.resolving.Refusal.{Refusal}
use Rattle.script_meaning.specs.declared.resolving.Refusal.TheVariants.{Fault, Limit, Memory}
use Rattle.loop_laws.specs.Turns.{Body}
use Rattle.loop_closure.specs.Bodies.{body_of}
use Rattle.loop_meaning.specs.Guards.{guard_tree}
use Rattle.loop_meaning.specs.Assigning.{assignments_fault, assignments_literal, assigned_parts, shift_passes, next_entries, next_shift}
use Rattle.loop_meaning.specs.declared.judging.Looping.{Looping}

-- the variables in scope
abbrev pub scope_of : List DeclarationShape → Scope
scope_of vars = with_declared [] vars

-- the first wrong name behind the loop's own, from left to right
abbrev pub loop_fault : List KeptSet → List DeclarationShape → TurnShape → Option FaultAt
loop_fault kept vars t = or_else (declared_fault [] vars) (or_else (tree_fault kept (scope_of vars) (guard_tree t.guard)) (assignments_fault (scope_of vars) [] t.assignments))

-- the core formula of the guard
abbrev pub guard_of : List KeptSet → List DeclarationShape → TurnShape → Formula
guard_of kept vars t = core kept (scope_of vars) (guard_tree t.guard)

-- the greatest number of variables of a loop
abbrev pub loop_variables_limit : ℕ
loop_variables_limit = 4

-- a constant of an assignment is judged behind those of the guard
abbrev pub shift_limit : TurnShape → Option Which
shift_limit t = if shift_passes t.assignments then Some Constant else None

-- some number of the loop passes the limit of literals
abbrev pub loop_literal : TurnShape → Bool
loop_literal t = literal_passes (guard_tree t.guard) || assignments_literal t.assignments

-- the first limit that is passed before the closure is looked at, where one more set may be too many
abbrev pub loop_passed : Bool → List KeptSet → List DeclarationShape → TurnShape → Option Which
loop_passed full kept vars t = if loop_literal t then Some Literal
    else if nat_lt loop_variables_limit (length vars) then Some LoopVariables
    else or_else (first_passed full (guard_tree t.guard) (guard_of kept vars t)) (shift_limit t)

-- the matrix, the shift and the guard
abbrev pub loop_body : List KeptSet → List DeclarationShape → TurnShape → Body
loop_body kept vars t = record {
  matrix = record { side = length (scope_of vars); entries = next_entries (scope_of vars) t.assignments };
  shift = next_shift (scope_of vars) t.assignments;
  guard = guard_of kept vars t;
}

-- the name of a variable after the turns
abbrev pub primed : List ℕ × Sort → List ℕ × Sort
primed v = (v.0 ++ codes "'", v.1)

-- the variables before the turns and after them
abbrev pub loop_variables : List DeclarationShape → Scope
loop_variables vars = scope_of vars ++ map primed (scope_of vars)

-- a loop that was read: its names have no quote marks, it has a variable, and few parts of terms
pub record IsLoopReadable (vars : List DeclarationShape) (t : TurnShape) : Type 0 where
  pub named : All (λ d. IsName d.name.left) vars
  pub some : 1 ≤ length vars
  pub size : length vars + (size_of (guard_tree t.guard) + assigned_parts t.assignments) ≤ terms_limit

-- the names are right, no limit is passed, and this is the loop
pub record IsLoopJudged (full : Bool) (kept : List KeptSet) (vars : List DeclarationShape) (t : TurnShape) (l : Looping) : Type 0 where
  pub names : loop_fault kept vars t ≡ None
  pub within : loop_passed full kept vars t ≡ None
  pub variables : l.vars ≡ loop_variables vars
  pub same : body_of l.body ≡ loop_body kept vars t

-- the names are right, and the limit is the first that is passed
pub record IsLoopLimited (full : Bool) (kept : List KeptSet) (vars : List DeclarationShape) (t : TurnShape) (which : Which) : Type 0 where
  pub names : loop_fault kept vars t ≡ None
  pub first : loop_passed full kept vars t ≡ Some which

-- the loop, or why it is refused; of want of memory nothing is said
abbrev pub IsLoop : Bool → List KeptSet → List DeclarationShape → TurnShape → Result Looping Refusal → Type 0
IsLoop full kept vars t (Ok l) = IsLoopJudged full kept vars t l
IsLoop full kept vars t (Err (Fault f)) = loop_fault kept vars t ≡ Some f
IsLoop full kept vars t (Err (Limit which)) = IsLoopLimited full kept vars t which
IsLoop full kept vars t (Err Memory) = Unit {0}

-- what a tree does at each turn
abbrev pub turn_of : DeclaredLoop → TurnShape
turn_of l = record { guard = map constraint_of l.guard.items; assignments = map assignment_of l.assignments.items }

-- no wrong name at Ok, with the variables in scope, and the first one at Err
abbrev pub IsNamedLoop : {U : Type 0} → List KeptSet → List DeclarationShape → TurnShape → Scope → Result U NameError → Type 0
IsNamedLoop kept vars t scope (Ok u) = (loop_fault kept vars t ≡ None) × (scope ≡ scope_of vars)
IsNamedLoop kept vars t scope (Err e) = IsRefused (loop_fault kept vars t) e

-- the variables and the body are those of the loop
pub record IsBuiltLoop (kept : List KeptSet) (vars : List DeclarationShape) (t : TurnShape) (l : Looping) : Type 0 where
  pub variables : l.vars ≡ loop_variables vars
  pub same : body_of l.body ≡ loop_body kept vars t
