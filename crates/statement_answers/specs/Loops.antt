-- The sets that loops keep: the pairs of vectors that some number of turns joins. Own.
use Rattle.std.specs.Prelude.{ℕ, ◌≡◌, ◌<◌, List, length, false, Option, None, Some}
use Rattle.lash_model.specs.Formulas.{Sort, Formula}
use Rattle.formula_core.specs.FewLetters.{FitsLetters}
use Rattle.term_substitution.specs.Conditions.{IsOver}
use Rattle.term_substitution.specs.Limits.{first_passed}
use Rattle.term_substitution.specs.declared.errors.FormError.TheVariants as form
use Rattle.matrix_powers.specs.Powers.{IsLeastPower, HasNoPower}
use Rattle.matrix_powers.specs.Trials.{power_of}
use Rattle.loop_laws.specs.Turns.{Body}
use Rattle.loop_laws.specs.Closures.{closure_of, count_place}
use Rattle.loop_closure.specs.Closing.{IsBody}
use Rattle.loop_closure.specs.declared.errors.LoopError.{LoopError}
use Rattle.loop_closure.specs.declared.errors.LoopError.TheVariants as unclosed
use Rattle.script_names.specs.Kept.{KeptSet, kept_place, sets_limit}
use Rattle.script_meaning.specs.Core.{truth}
use Rattle.script_meaning.specs.declared.limits.Which.{Which}
use Rattle.script_meaning.specs.declared.limits.Which.TheVariants as limit
use Rattle.statement_answers.specs.declared.errors.Unanswered.{Unanswered}
use Rattle.statement_answers.specs.declared.errors.Unanswered.TheVariants.{Heavy, NotWeak, NoPower, Closure, KeptCells, Fault, Memory}

-- the closure over a power; there is none without one
abbrev pub closed_at : Body → Option ℕ → Formula
closed_at l None = truth false
closed_at l (Some p) = closure_of false l p

-- the formula of a loop's pairs
abbrev pub pairs_of : Body → Formula
pairs_of l = closed_at l (power_of l.matrix)

-- the matrix has a least power, and the closure passes no limit
pub record HasPairs (base : ℕ) (l : Body) : Type 0 where
  pub power : ℕ
  pub least : IsLeastPower l.matrix power
  pub same : pairs_of l ≡ closure_of false l power
  pub within : first_passed (pairs_of l) ≡ None
  pub letters : FitsLetters base (pairs_of l) (count_place l)

-- the limit is the first that the formula passes, the letters behind the others
abbrev pub ClosurePasses : ℕ → Formula → ℕ → Which → Type 0
ClosurePasses base f places limit.StatementBytes = ⊥
ClosurePasses base f places limit.ScriptBytes = ⊥
ClosurePasses base f places limit.Nesting = ⊥
ClosurePasses base f places limit.Literal = ⊥
ClosurePasses base f places limit.LoopVariables = ⊥
ClosurePasses base f places limit.Sets = ⊥
ClosurePasses base f places limit.Nodes = first_passed f ≡ Some form.Nodes
ClosurePasses base f places limit.Depth = first_passed f ≡ Some form.Depth
ClosurePasses base f places limit.Coefficient = first_passed f ≡ Some form.Coefficient
ClosurePasses base f places limit.Constant = first_passed f ≡ Some form.Constant
ClosurePasses base f places limit.Letters = (first_passed f ≡ None) × (FitsLetters base f places → ⊥)
ClosurePasses base f places limit.Denominator = ⊥
ClosurePasses base f places limit.KeptCells = ⊥

-- the matrix has a least power, and the closure passes this limit first
pub record IsClosurePassed (base : ℕ) (l : Body) (which : Which) : Type 0 where
  pub power : ℕ
  pub least : IsLeastPower l.matrix power
  pub passes : ClosurePasses base (closure_of false l power) (count_place l) which

-- a loop to be kept: its body is inside the limits, it has twice as many variables, and its name is new
pub record IsFitLoop (kept : List KeptSet) (name : List ℕ) (vars : List (List ℕ × Sort)) (l : Body) : Type 0 where
  pub inside : IsBody l
  pub count : length vars ≡ count_place l
  pub fresh : kept_place kept name ≡ None
  pub room : length kept < sets_limit

-- why a loop has no pairs
abbrev pub IsUnpaired : ℕ → Body → Unanswered → Type 0
IsUnpaired base l NoPower = HasNoPower l.matrix
IsUnpaired base l (Closure which) = IsClosurePassed base l which
IsUnpaired base l Heavy = ⊥
IsUnpaired base l (NotWeak sign whole stem accept reject) = ⊥
IsUnpaired base l KeptCells = ⊥
IsUnpaired base l Fault = ⊥
IsUnpaired base l Memory = Unit {0}

-- how a loop without closure is answered
abbrev pub unclosed_of : LoopError → Unanswered
unclosed_of unclosed.NoPower = NoPower
unclosed_of unclosed.Nodes = Closure limit.Nodes
unclosed_of unclosed.Depth = Closure limit.Depth
unclosed_of unclosed.Coefficient = Closure limit.Coefficient
unclosed_of unclosed.Constant = Closure limit.Constant
unclosed_of unclosed.Memory = Memory

-- the formula is that of the loop's pairs: over the variables and inside the limits
pub record IsPairing (base : ℕ) (l : Body) (f : Formula) : Type 0 where
  pub has : HasPairs base l
  pub same : f ≡ pairs_of l
  pub over : IsOver (count_place l) f
