-- The first wrong name of a formula, from left to right.
use Rattle.std.specs.Prelude.{ℕ, List, [], ◌∷◌, ◌++◌, length, nat_eq, Option, None, Some, if◌then◌else◌}
use Rattle.lash_model.specs.Formulas.{Sort, Int, Real}
use Rattle.formula_core.specs.Variables.{sorts_of}
use Rattle.script_syntax.specs.Trees.{Named, PartShape, Constant, Scaled, Variable, SignedShape, DeclarationShape, TreeShape, Truth, Compare, Call, Not, And, Or, Implies, Equivalent, Quantified}
use Rattle.script_names.specs.Kept.{KeptSet, kept_set}
use Rattle.script_names.specs.Scopes.{Scope, place_of, sort_named, variable_of, with_declared}
use Rattle.script_names.specs.declared.names.NameFault.{NameFault}
use Rattle.script_names.specs.declared.names.NameFault.TheVariants.{Unknown, Repeated, Misused}
use Rattle.script_names.specs.declared.names.FaultAt.{FaultAt}

-- the first of two that is there
abbrev pub or_else : {A : Type 0} → Option A → Option A → Option A
or_else None y = y
or_else (Some x) y = Some x

abbrev pub fault_at : NameFault → Named → Option FaultAt
fault_at fault name = Some (record { fault = fault; place = name.right })

-- a variable that is not declared is unknown
abbrev pub unknown : Named → Option ℕ → Option FaultAt
unknown name None = fault_at Unknown name
unknown name (Some place) = None

-- a variable that is declared already is repeated
abbrev pub repeated : Named → Option ℕ → Option FaultAt
repeated name None = None
repeated name (Some place) = fault_at Repeated name

abbrev pub part_fault : Scope → PartShape → Option FaultAt
part_fault scope (Constant n) = None
part_fault scope (Scaled n name) = unknown name (place_of scope name.left)
part_fault scope (Variable name) = unknown name (place_of scope name.left)

abbrev pub term_fault : Scope → List SignedShape → Option FaultAt
term_fault scope [] = None
term_fault scope (s ∷ ss) = or_else (part_fault scope s.part) (term_fault scope ss)

-- each declaration is in the scope of those behind it
abbrev pub declared_fault : Scope → List DeclarationShape → Option FaultAt
declared_fault scope [] = None
declared_fault scope (d ∷ ds) = or_else (repeated d.name (place_of scope d.name.left)) (declared_fault (scope ++ variable_of d ∷ []) ds)

-- an argument for an integer has integers alone
abbrev pub mismatched : Named → Sort → Option Sort → Option FaultAt
mismatched name wanted None = fault_at Unknown name
mismatched name Int (Some Int) = None
mismatched name Int (Some Real) = fault_at Misused name
mismatched name Real (Some sort) = None

abbrev pub argument_part_fault : Sort → Scope → PartShape → Option FaultAt
argument_part_fault wanted scope (Constant n) = None
argument_part_fault wanted scope (Scaled n name) = mismatched name wanted (sort_named scope name.left)
argument_part_fault wanted scope (Variable name) = mismatched name wanted (sort_named scope name.left)

-- the first wrong name of an argument for a variable of the sort
abbrev pub argument_fault : Sort → Scope → List SignedShape → Option FaultAt
argument_fault wanted scope [] = None
argument_fault wanted scope (s ∷ ss) = or_else (argument_part_fault wanted scope s.part) (argument_fault wanted scope ss)

-- of arguments for variables of these sorts
abbrev pub arguments_fault : Scope → List Sort → List (List SignedShape) → Option FaultAt
arguments_fault scope [] ts = None
arguments_fault scope (s ∷ ss) [] = None
arguments_fault scope (s ∷ ss) (t ∷ ts) = or_else (argument_fault s scope t) (arguments_fault scope ss ts)

-- a call of a set, if one of the name is kept: it has as many arguments as the set has variables
abbrev pub call_fault : Option KeptSet → Scope → Named → List (List SignedShape) → Option FaultAt
call_fault None scope name ts = fault_at Unknown name
call_fault (Some k) scope name ts = if nat_eq (length ts) (length k.vars) then arguments_fault scope (sorts_of k.vars) ts else fault_at Misused name

-- the first wrong name of a formula, where these sets are kept and these variables are in scope
abbrev pub tree_fault : List KeptSet → Scope → TreeShape → Option FaultAt
tree_fault kept scope (Truth b) = None
tree_fault kept scope (Compare a r b) = or_else (term_fault scope a) (term_fault scope b)
tree_fault kept scope (Call name ts) = call_fault (kept_set kept name.left) scope name ts
tree_fault kept scope (Not f) = tree_fault kept scope f
tree_fault kept scope (And f g) = or_else (tree_fault kept scope f) (tree_fault kept scope g)
tree_fault kept scope (Or f g) = or_else (tree_fault kept scope f) (tree_fault kept scope g)
tree_fault kept scope (Implies f g) = or_else (tree_fault kept scope f) (tree_fault kept scope g)
tree_fault kept scope (Equivalent f g) = or_else (tree_fault kept scope f) (tree_fault kept scope g)
tree_fault kept scope (Quantified q ds f) = or_else (declared_fault scope ds) (tree_fault kept (with_declared scope ds) f)

-- the first wrong name of declared variables and a formula over them
abbrev pub set_fault : List KeptSet → List DeclarationShape → TreeShape → Option FaultAt
set_fault kept vars f = or_else (declared_fault [] vars) (tree_fault kept (with_declared [] vars) f)
