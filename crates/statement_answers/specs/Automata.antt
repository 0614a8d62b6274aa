-- The automata of sets, in the base and within the limit of cells of the settings. Own.
use Rattle.std.specs.Prelude.{ℕ, ◌+◌, ◌*◌, ◌≡◌, List, length}
use Rattle.lash_model.specs.Formulas.{Sort, Formula}
use Rattle.lash_model.specs.Tables.{Table, letters, ints, fracs}
use Rattle.lash_model.specs.Standing.{StandsFor}
use Rattle.part_laws.specs.CanonicalMixed.{IsCanonicalTable}
use Rattle.formula_core.specs.FewLetters.{FitsLetters}
use Rattle.formula_core.specs.Variables.{sorts_of}
use Rattle.set_compile.specs.Compiling.{IsCompiled}
use Rattle.set_compile.specs.Conditions.{IsOver}
use Rattle.statement_answers.specs.declared.settings.Settings.{Settings}

-- what a set of a script has: its terms are over its variables and inside the limits, and its letters are few
pub record IsGiven (base : ℕ) (vars : List (List ℕ × Sort)) (f : Formula) : Type 0 where
  pub over : IsOver (length vars) f
  pub letters : FitsLetters base f (length vars)

-- the automaton of a set: the canonical one in the base, over all variables, that stands for the set; each step that builds it is within the
-- limit of cells, and has a weak automaton
pub record IsAnswer (settings : Settings) (vars : List (List ℕ × Sort)) (f : Formula) (t : Table) : Type 0 where
  pub stands : StandsFor t (sorts_of vars) f
  pub canonical : IsCanonicalTable t
  pub base : t.base ≡ settings.base
  pub tracks : t.tracks ≡ length vars
  pub made : IsCompiled settings.base settings.cells (sorts_of vars) f t

-- the cells of a table: for each state one, and one for each letter
abbrev pub cells_of : Table → ℕ
cells_of t = (ints t + fracs t) * (letters t + 1)
