-- Loops that have a closure, and the causes where there is none (own).
use Rattle.std.specs.Prelude.{◌≡◌, ℕ, ◌≤◌, Bool, Some}
use Rattle.lash_model.specs.Formulas.{Formula}
use Rattle.formula_core.specs.Counts.{nodes_of, depth_of}
use Rattle.term_substitution.specs.Conditions.{IsOver}
use Rattle.term_substitution.specs.Limits.{nodes_limit, depth_limit, first_passed}
use Rattle.term_substitution.specs.declared.errors.FormError.{FormError}
use Rattle.term_substitution.specs.declared.errors.FormError.TheVariants as form
use Rattle.matrix_powers.specs.Orbits.{IsShift}
use Rattle.matrix_powers.specs.Powers.{IsLeastPower, HasNoPower}
use Rattle.loop_laws.specs.Turns.{Body, IsGuard}
use Rattle.loop_laws.specs.Closures.{closure_of}
use Rattle.loop_closure.specs.declared.errors.LoopError.{LoopError}
use Rattle.loop_closure.specs.declared.errors.LoopError.TheVariants.{NoPower, Nodes, Depth, Coefficient, Constant, Memory}

-- a loop whose guard is of comparisons over its variables and inside all limits, and whose shift is small
pub record IsBody (l : Body) : Type 0 where
  pub guard : IsGuard l.guard
  pub over : IsOver l.matrix.side l.guard
  pub nodes : nodes_of l.guard ≤ nodes_limit
  pub depth : depth_of l.guard ≤ depth_limit
  pub shift : IsShift l.matrix.side l.shift

-- the formula is the closure over the least power of the matrix, with the number of turns or without it
pub record IsClosed (counted : Bool) (l : Body) (f : Formula) : Type 0 where
  pub power : ℕ
  pub least : IsLeastPower l.matrix power
  pub same : f ≡ closure_of counted l power

-- the limit is the first that the closure passes
pub record IsPassed (counted : Bool) (l : Body) (e : FormError) : Type 0 where
  pub power : ℕ
  pub least : IsLeastPower l.matrix power
  pub first : first_passed (closure_of counted l power) ≡ Some e

-- the cause; of want of memory nothing is said
abbrev pub IsUnclosed : Bool → Body → LoopError → Type 0
IsUnclosed counted l NoPower = HasNoPower l.matrix
IsUnclosed counted l Nodes = IsPassed counted l form.Nodes
IsUnclosed counted l Depth = IsPassed counted l form.Depth
IsUnclosed counted l Coefficient = IsPassed counted l form.Coefficient
IsUnclosed counted l Constant = IsPassed counted l form.Constant
IsUnclosed counted l Memory = Unit {0}
