-- The table of a formula over declared variables (own): its table on all tracks, and from a table that reads lassos the vectors that are whole
-- at the integer variables.
use Rattle.std.specs.Prelude.{◌≡◌, ℕ, ◌+◌, ◌⊎◌, Bool, true, false, List, [], ◌∷◌, length}
use Rattle.std.specs.List.{list_all}
use Rattle.lash_model.specs.Formulas.{Sort, Int, Real, Formula}
use Rattle.lash_model.specs.Tables.{Table}
use Rattle.formula_core.specs.Counts.{is_int}
use Rattle.product_ops.specs.Restriction.{AcceptsWholes}
use Rattle.set_compile.specs.Conditions.{mode_of}
use Rattle.set_compile.specs.Kinds.{IsShaped}
use Rattle.set_compile.specs.Steps.{IsWholeAt, IsHeavyAt, IsWide, IsWideRefused}
use Rattle.set_compile.specs.declared.build.Build.{Build}
use Rattle.set_compile.specs.declared.build.Mode.{Mode}
use Rattle.set_compile.specs.declared.build.Mode.TheVariants.{Whole, Mixed}
use Rattle.set_compile.specs.declared.errors.CompileError.{CompileError}
use Rattle.set_compile.specs.declared.errors.CompileError.TheVariants.{Heavy}

-- the table accepts what u accepts with whole numbers at the places of the integers among the sorts, of which the first is at the place
abbrev pub AreWholeFrom : Build → ℕ → ℕ → List Sort → Table → Table → Type 0
AreWholeFrom b m place [] u t = t ≡ u
AreWholeFrom b m place (Int ∷ sorts) u t = (v : Table) × (IsWholeAt b m place u v × AreWholeFrom b m (place + 1) sorts v t)
AreWholeFrom b m place (Real ∷ sorts) u t = AreWholeFrom b m (place + 1) sorts u t

-- one of the steps for the integers among the sorts passes the limit, and all steps before it are within
abbrev pub IsHeavyFrom : Build → ℕ → ℕ → List Sort → Table → Type 0
IsHeavyFrom b m place [] u = ⊥
IsHeavyFrom b m place (Int ∷ sorts) u = IsHeavyAt b m place u ⊎ ((v : Table) × (IsWholeAt b m place u v × IsHeavyFrom b m (place + 1) sorts v))
IsHeavyFrom b m place (Real ∷ sorts) u = IsHeavyFrom b m (place + 1) sorts u

-- the canonical diagram, over m variables, of the vectors of whole numbers that a table with fraction states accepts
pub record IsOfIntegers (b : Build) (m : ℕ) (u t : Table) : Type 0 where
  pub shape : IsShaped Whole b.base m t
  pub words : AcceptsWholes u t

-- how the table on all tracks becomes that of the declared variables, which may all be integers: a table that reads words is that as it is; of
-- one that reads lassos the vectors of whole numbers are kept if all variables are integers, and else those that are whole at the integers
abbrev pub IsDeclared : Mode → Bool → Build → List Sort → Table → Table → Type 0
IsDeclared Whole all b sorts u t = t ≡ u
IsDeclared Mixed true b sorts u t = IsOfIntegers b (length sorts) u t
IsDeclared Mixed false b sorts u t = AreWholeFrom b (length sorts) 0 sorts u t

-- a step of that passes the limit, and all steps before it are within
abbrev pub IsDeclaringHeavy : Mode → Bool → Build → List Sort → Table → Type 0
IsDeclaringHeavy Whole all b sorts u = ⊥
IsDeclaringHeavy Mixed true b sorts u = ⊥
IsDeclaringHeavy Mixed false b sorts u = IsHeavyFrom b (length sorts) 0 sorts u

-- base, limit of cells, sorts and formula: how its tables are built
abbrev pub build_of : ℕ → ℕ → List Sort → Formula → Build
build_of base limit sorts f = record { mode = mode_of sorts f; base = base; limit = limit }

-- the canonical table of a formula over declared variables, all of whose steps are within the limit
pub record IsCompiled (base limit : ℕ) (sorts : List Sort) (f : Formula) (t : Table) : Type 0 where
  pub wide : Table
  pub wide_made : IsWide (build_of base limit sorts f) (length sorts) f wide
  pub declared : IsDeclared (mode_of sorts f) (list_all is_int sorts) (build_of base limit sorts f) sorts wide t

-- a step is refused, and all steps before it are made
abbrev pub IsRefused : ℕ → ℕ → List Sort → Formula → CompileError → Type 0
IsRefused base limit sorts f e = IsWideRefused (build_of base limit sorts f) (length sorts) f e
    ⊎ ((e ≡ Heavy) × ((u : Table) × (IsWide (build_of base limit sorts f) (length sorts) f u
    × IsDeclaringHeavy (mode_of sorts f) (list_all is_int sorts) (build_of base limit sorts f) sorts u)))
