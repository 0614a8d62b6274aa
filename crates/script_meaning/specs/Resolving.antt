-- What a set of a script is resolved to.
use Rattle.std.specs.Prelude.{◌≡◌, ℕ, ◌⊎◌, Bool, List, [], length, nat_lt, Option, None, Some, Result, Ok, Err, if◌then◌else◌}
use Rattle.lash_model.specs.Formulas.{Formula}
use Rattle.formula_core.specs.Counts.{nodes_of, depth_of}
use Rattle.formula_core.specs.FewLetters.{FitsLetters}
use Rattle.formula_core.specs.Shape.{formula_of}
use Rattle.formula_core.specs.declared.formula.Formula.{Formula as DeclaredFormula}
use Rattle.script_syntax.specs.Trees.{DeclarationShape, TreeShape}
use Rattle.script_names.specs.Kept.{KeptSet}
use Rattle.script_names.specs.Scopes.{Scope, with_declared}
use Rattle.script_meaning.specs.Core.{core}
use Rattle.script_names.specs.Faults.{set_fault}
use Rattle.term_substitution.specs.Limits.{nodes_limit, depth_limit, some_atom, coefficients_pass, constant_passes}
use Rattle.script_meaning.specs.Limits.{literal_passes}
use Rattle.script_names.specs.Answers.{IsRefused}
use Rattle.script_meaning.specs.declared.limits.Which.{Which}
use Rattle.script_meaning.specs.declared.limits.Which.TheVariants.{Literal, Sets, Nodes, Depth, Coefficient, Constant, Letters}
use Rattle.term_substitution.specs.declared.judging.Passed.{Passed}
use Rattle.script_names.specs.declared.names.NameError.{NameError}
use Rattle.script_meaning.specs.declared.resolving.Resolved.{Resolved}
use Rattle.script_meaning.specs.declared.resolving.Refusal.{Refusal}
use Rattle.script_meaning.specs.declared.resolving.Refusal.TheVariants.{Fault as RefusedFault, Limit, Memory as RefusedMemory}

-- no wrong name at Ok, with the variables in scope, and the first wrong name at Err
abbrev pub IsNamed : {U : Type 0} → List KeptSet → List DeclarationShape → TreeShape → Scope → Result U NameError → Type 0
IsNamed kept vars f scope (Ok u) = (set_fault kept vars f ≡ None) × (scope ≡ with_declared [] vars)
IsNamed kept vars f scope (Err e) = IsRefused (set_fault kept vars f) e

-- coefficients come before constants
abbrev pub atom_passed : Passed → Option Which
atom_passed p = if p.coefficients then Some Coefficient else if p.constant then Some Constant else None

-- the first limit that is passed before the letters are looked at: a literal anywhere comes before the number of sets, where one more is too
-- many, that before the nodes, those before the depth, and so on, over the whole formula
abbrev pub first_passed : Bool → TreeShape → Formula → Option Which
first_passed full tree f = if literal_passes tree then Some Literal
    else if full then Some Sets
    else if nat_lt nodes_limit (nodes_of f) then Some Nodes
    else if nat_lt depth_limit (depth_of f) then Some Depth
    else atom_passed (record { coefficients = some_atom coefficients_pass f; constant = some_atom constant_passes f })

-- no limit is passed
pub record IsWithin (full : Bool) (base places : ℕ) (tree : TreeShape) (f : Formula) : Type 0 where
  pub none : first_passed full tree f ≡ None
  pub letters : FitsLetters base f places

-- the limit is the first that is passed
abbrev pub IsFirstPassed : Bool → ℕ → ℕ → TreeShape → Formula → Which → Type 0
IsFirstPassed full base places tree f which = (first_passed full tree f ≡ Some which) ⊎ ((first_passed full tree f ≡ None) × (which ≡ Letters) × (FitsLetters base f places → ⊥))

-- the core formula where no limit is passed, and else the first limit
abbrev pub IsBuilt : Bool → ℕ → List KeptSet → Scope → TreeShape → Result DeclaredFormula Refusal → Type 0
IsBuilt full base kept scope tree (Ok f) = IsWithin full base (length scope) tree (core kept scope tree) × (formula_of f ≡ core kept scope tree)
IsBuilt full base kept scope tree (Err (RefusedFault f)) = ⊥
IsBuilt full base kept scope tree (Err (Limit which)) = IsFirstPassed full base (length scope) tree (core kept scope tree) which
IsBuilt full base kept scope tree (Err RefusedMemory) = Unit

-- the names are right, no limit is passed, and the variables and the formula are those of the script; or the first wrong name; or, where
-- the names are right, the first limit. Of want of memory nothing is said
abbrev pub IsResolved : Bool → ℕ → List KeptSet → List DeclarationShape → TreeShape → Result Resolved Refusal → Type 0
IsResolved full base kept vars tree (Ok r) = (set_fault kept vars tree ≡ None) × IsWithin full base (length vars) tree (core kept (with_declared [] vars) tree) × (r.vars ≡ with_declared [] vars) × (formula_of r.formula ≡ core kept (with_declared [] vars) tree)
IsResolved full base kept vars tree (Err (RefusedFault f)) = set_fault kept vars tree ≡ Some f
IsResolved full base kept vars tree (Err (Limit which)) = (set_fault kept vars tree ≡ None) × IsFirstPassed full base (length vars) tree (core kept (with_declared [] vars) tree) which
IsResolved full base kept vars tree (Err RefusedMemory) = Unit

-- the letters of the formula are few, or this is refused
abbrev pub IsLettered : ℕ → ℕ → Formula → Result DeclaredFormula Refusal → Type 0
IsLettered base places f (Ok g) = FitsLetters base f places × (formula_of g ≡ f)
IsLettered base places f (Err e) = (e ≡ Limit Letters) × (FitsLetters base f places → ⊥)
