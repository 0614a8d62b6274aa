-- The names and the limits of statements (own).
use Rattle.std.specs.Prelude.{◌≡◌, ℕ, ◌≤◌, ◌+◌, ◌⊎◌, nat_eq, nat_lt, Bool, true, false, not, ◌&&◌, List, [], ◌∷◌, All, length, map, Option, None, Some, Result, Ok, Err, if◌then◌else◌}
use Rattle.lash_model.specs.Formulas.{Sort, Int, Real}
use Rattle.formula_core.specs.Names.{IsVariableName}
use Rattle.formula_core.specs.Variables.{sorts_of}
use Rattle.fraction_codes.specs.Fractions.{IsCommonDenominator, IsTooFine}
use Rattle.script_syntax.specs.Trees.{Named}
use Rattle.script_statements.specs.Values.{RationalShape}
use Rattle.script_statements.specs.Statements.{ComprehensionShape, StatementShape, Show, Set, Print, Solve, Test, Equal, Subset, Check, Loop}
use Rattle.script_names.specs.Kept.{KeptSet, kept_place, kept_set, sets_limit}
use Rattle.script_names.specs.Faults.{or_else, fault_at, unknown, repeated, set_fault}
use Rattle.script_names.specs.declared.names.FaultAt.{FaultAt}
use Rattle.script_names.specs.declared.names.NameFault.TheVariants.{Unknown, Misused}
use Rattle.script_meaning.specs.Core.{core}
use Rattle.script_meaning.specs.Limits.{size_of, terms_limit}
use Rattle.script_meaning.specs.Resolving.{IsWithin, IsFirstPassed}
use Rattle.script_meaning.specs.declared.limits.Which.{Which}
use Rattle.script_meaning.specs.declared.limits.Which.TheVariants.{Literal, Denominator}
use Rattle.script_meaning.specs.declared.resolving.Refusal.{Refusal}
use Rattle.script_meaning.specs.declared.resolving.Refusal.TheVariants.{Fault, Limit, Memory}
use Rattle.loop_meaning.specs.Looping.{loop_fault, loop_passed, IsLoopReadable}
use Rattle.statement_meaning.specs.Values.{ratio_of, values_pass, IsQuotient}
use Rattle.statement_meaning.specs.Asking.{core_of, asked, asked_of}
use Rattle.statement_meaning.specs.declared.statement.Statement.{Statement as DeclaredStatement}

-- a test has a value for each variable of its set
abbrev pub tested_fault : Named → Option KeptSet → ℕ → Option FaultAt
tested_fault name None count = fault_at Unknown name
tested_fault name (Some k) count = if nat_eq count (length k.vars) then None else fault_at Misused name

abbrev pub same_sort : Sort → Sort → Bool
same_sort Int Int = true
same_sort Int Real = false
same_sort Real Int = false
same_sort Real Real = true

abbrev pub same_sorts : List Sort → List Sort → Bool
same_sorts [] [] = true
same_sorts [] (t ∷ ts) = false
same_sorts (s ∷ ss) [] = false
same_sorts (s ∷ ss) (t ∷ ts) = same_sort s t && same_sorts ss ts

-- the second of two sets that are compared has the sorts of the first
abbrev pub other_fault : Named → Option KeptSet → Option KeptSet → Option FaultAt
other_fault name first None = fault_at Unknown name
other_fault name None (Some k) = None
other_fault name (Some j) (Some k) = if same_sorts (sorts_of j.vars) (sorts_of k.vars) then None else fault_at Misused name

-- the first wrong name of two sets that are compared
abbrev pub compared_fault : List KeptSet → Named → Named → Option FaultAt
compared_fault kept a b = or_else (unknown a (kept_place kept a.left)) (other_fault b (kept_set kept a.left) (kept_set kept b.left))

-- the first wrong name of a statement
abbrev pub statement_fault : List KeptSet → StatementShape → Option FaultAt
statement_fault kept (Show set) = set_fault kept set.vars set.formula
statement_fault kept (Set name set) = or_else (repeated name (kept_place kept name.left)) (set_fault kept set.vars set.formula)
statement_fault kept (Print name) = unknown name (kept_place kept name.left)
statement_fault kept (Solve name) = unknown name (kept_place kept name.left)
statement_fault kept (Test name vs) = tested_fault name (kept_set kept name.left) (length vs)
statement_fault kept (Equal a b) = compared_fault kept a b
statement_fault kept (Subset a b) = compared_fault kept a b
statement_fault kept (Check f) = set_fault kept [] f
statement_fault kept (Loop name vars turn) = or_else (repeated name (kept_place kept name.left)) (loop_fault kept vars turn)

-- one more set would be too many
abbrev pub is_full : List KeptSet → Bool
is_full kept = not (nat_lt (length kept) sets_limit)

-- the values have a common denominator of at most 65,536
abbrev pub AreCoarse : List RationalShape → Type 0
AreCoarse vs = (d : ℕ) × (IsCommonDenominator (map ratio_of vs) d × (d ≤ 65536))

-- no limit is passed
abbrev pub IsStatementWithin : ℕ → List KeptSet → StatementShape → Type 0
IsStatementWithin base kept (Show set) = IsWithin false base (length set.vars) set.formula (core_of kept set)
IsStatementWithin base kept (Set name set) = IsWithin (is_full kept) base (length set.vars) set.formula (core_of kept set)
IsStatementWithin base kept (Print name) = Unit
IsStatementWithin base kept (Solve name) = Unit
IsStatementWithin base kept (Test name vs) = (values_pass vs ≡ false) × AreCoarse vs
IsStatementWithin base kept (Equal a b) = Unit
IsStatementWithin base kept (Subset a b) = Unit
IsStatementWithin base kept (Check f) = IsWithin false base 0 f (core kept [] f)
IsStatementWithin base kept (Loop name vars turn) = loop_passed (is_full kept) kept vars turn ≡ None

-- a literal of a test comes before the denominator
abbrev pub IsTestPassed : List RationalShape → Which → Type 0
IsTestPassed vs which = ((values_pass vs ≡ true) × (which ≡ Literal)) ⊎ ((values_pass vs ≡ false) × (which ≡ Denominator) × IsTooFine (map ratio_of vs))

-- the limit is the first that is passed
abbrev pub IsStatementPassed : ℕ → List KeptSet → StatementShape → Which → Type 0
IsStatementPassed base kept (Show set) which = IsFirstPassed false base (length set.vars) set.formula (core_of kept set) which
IsStatementPassed base kept (Set name set) which = IsFirstPassed (is_full kept) base (length set.vars) set.formula (core_of kept set) which
IsStatementPassed base kept (Print name) which = ⊥
IsStatementPassed base kept (Solve name) which = ⊥
IsStatementPassed base kept (Test name vs) which = IsTestPassed vs which
IsStatementPassed base kept (Equal a b) which = ⊥
IsStatementPassed base kept (Subset a b) which = ⊥
IsStatementPassed base kept (Check f) which = IsFirstPassed false base 0 f (core kept [] f) which
IsStatementPassed base kept (Loop name vars turn) which = loop_passed (is_full kept) kept vars turn ≡ Some which

-- the names of the statement are right and it passes no limit; this is what it asks
pub record IsJudged (base : ℕ) (kept : List KeptSet) (shape : StatementShape) (s : DeclaredStatement) : Type 0 where
  pub names : statement_fault kept shape ≡ None
  pub within : IsStatementWithin base kept shape
  pub asks : asked kept shape ≡ Some (asked_of s)

-- the names of the statement are right, and the limit is the first that it passes
pub record IsLimited (base : ℕ) (kept : List KeptSet) (shape : StatementShape) (which : Which) : Type 0 where
  pub names : statement_fault kept shape ≡ None
  pub first : IsStatementPassed base kept shape which

-- why a statement is refused; of want of memory nothing is said
abbrev pub IsStatementRefused : ℕ → List KeptSet → StatementShape → Refusal → Type 0
IsStatementRefused base kept shape (Fault f) = statement_fault kept shape ≡ Some f
IsStatementRefused base kept shape (Limit which) = IsLimited base kept shape which
IsStatementRefused base kept shape Memory = Unit {0}

abbrev pub IsJudgement : ℕ → List KeptSet → StatementShape → Result DeclaredStatement Refusal → Type 0
IsJudgement base kept shape (Ok s) = IsJudged base kept shape s
IsJudgement base kept shape (Err e) = IsStatementRefused base kept shape e

-- a set whose names are names of variables, of few declarations and parts of terms
pub record IsReadable (set : ComprehensionShape) : Type 0 where
  pub named : All (λ d. IsVariableName d.name.left) set.vars
  pub size : length set.vars + size_of set.formula ≤ terms_limit

-- what a statement that was read is like
abbrev pub IsStatementReadable : StatementShape → Type 0
IsStatementReadable (Show set) = IsReadable set
IsStatementReadable (Set name set) = IsReadable set
IsStatementReadable (Print name) = Unit {0}
IsStatementReadable (Solve name) = Unit {0}
IsStatementReadable (Test name vs) = All IsQuotient vs
IsStatementReadable (Equal a b) = Unit {0}
IsStatementReadable (Subset a b) = Unit {0}
IsStatementReadable (Check f) = size_of f ≤ terms_limit
IsStatementReadable (Loop name vars turn) = IsLoopReadable vars turn
