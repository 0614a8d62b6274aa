-- What statements ask, where sets are kept (own). A kept set is named by its place in the list.
use Rattle.std.specs.Prelude.{ℕ, List, [], map, Option, None, Some}
use Rattle.std.specs.Option.{option_map}
use Rattle.lash_model.specs.Formulas.{Sort, Formula}
use Rattle.formula_core.specs.Shape.{formula_of}
use Rattle.fraction_codes.specs.declared.ratio.Ratio.{Ratio}
use Rattle.script_statements.specs.Statements.{ComprehensionShape, StatementShape, Show as ShowShape, Set as SetShape, Print as PrintShape, Solve as SolveShape, Test as TestShape, Equal as EqualShape, Subset as SubsetShape, Check as CheckShape, Loop as LoopShape}
use Rattle.script_names.specs.Kept.{KeptSet, kept_place}
use Rattle.script_names.specs.Scopes.{with_declared}
use Rattle.script_meaning.specs.Core.{core}
use Rattle.loop_laws.specs.Turns.{Body}
use Rattle.loop_closure.specs.Bodies.{body_of}
use Rattle.loop_meaning.specs.Looping.{loop_body, loop_variables}
use Rattle.statement_meaning.specs.Values.{ratio_of}
use Rattle.statement_meaning.specs.declared.statement.Statement.{Statement as DeclaredStatement}
use Rattle.statement_meaning.specs.declared.statement.Statement.TheVariants as declared

pub data Asked : Type 0 where
  Show : List (List ℕ × Sort) → Formula → Asked
  Set : List ℕ → List (List ℕ × Sort) → Formula → Asked
  Print : ℕ → Asked
  Solve : ℕ → Asked
  Test : ℕ → List Ratio → Asked
  Equal : ℕ → ℕ → Asked
  Subset : ℕ → ℕ → Asked
  Check : Formula → Asked
  Loop : List ℕ → List (List ℕ × Sort) → Body → Asked

-- the variables of a set
abbrev pub vars_of : ComprehensionShape → List (List ℕ × Sort)
vars_of set = with_declared [] set.vars

-- its core formula
abbrev pub core_of : List KeptSet → ComprehensionShape → Formula
core_of kept set = core kept (vars_of set) set.formula

-- of two kept sets
abbrev pub of_both : (ℕ → ℕ → Asked) → Option ℕ → Option ℕ → Option Asked
of_both f None right = None
of_both f (Some left) None = None
of_both f (Some left) (Some right) = Some (f left right)

-- what a statement asks; None where it names no kept set
abbrev pub asked : List KeptSet → StatementShape → Option Asked
asked kept (ShowShape set) = Some (Show (vars_of set) (core_of kept set))
asked kept (SetShape name set) = Some (Set name.left (vars_of set) (core_of kept set))
asked kept (PrintShape name) = option_map Print (kept_place kept name.left)
asked kept (SolveShape name) = option_map Solve (kept_place kept name.left)
asked kept (TestShape name vs) = option_map (λ at. Test at (map ratio_of vs)) (kept_place kept name.left)
asked kept (EqualShape a b) = of_both Equal (kept_place kept a.left) (kept_place kept b.left)
asked kept (SubsetShape a b) = of_both Subset (kept_place kept a.left) (kept_place kept b.left)
asked kept (CheckShape f) = Some (Check (core kept [] f))
asked kept (LoopShape name vars turn) = Some (Loop name.left (loop_variables vars) (loop_body kept vars turn))

-- the same of the program's statements
abbrev pub asked_of : DeclaredStatement → Asked
asked_of (declared.Show vars f) = Show vars (formula_of f)
asked_of (declared.Set name vars f) = Set name vars (formula_of f)
asked_of (declared.Print at) = Print at
asked_of (declared.Solve at) = Solve at
asked_of (declared.Test at values) = Test at values
asked_of (declared.Equal left right) = Equal left right
asked_of (declared.Subset left right) = Subset left right
asked_of (declared.Check f) = Check (formula_of f)
asked_of (declared.Loop name vars body) = Loop name vars (body_of body)
