-- The projection of an automaton with fraction states along a track: its breakpoint table, and the weak form of that or the words which show
-- that there is none.
use Rattle.std.specs.Prelude.{ℕ, List}
use Rattle.lash_model.specs.Tables.{Table, IsTable}
use Rattle.marked_laws.specs.TornTables.{AreTornWords}
use Rattle.marked_laws.specs.Weakening.{IsTorn, IsWeakForm}
use Rattle.breakpoint_laws.specs.Breakpoints.{IsBreakpointTable}
use Rattle.breakpoint_build.specs.declared.errors.RealError.{RealError}
use Rattle.breakpoint_build.specs.declared.errors.RealError.TheVariants.{Heavy, NotWeak, Memory}

-- the second table is the weak form of the first one's breakpoint table, which is not torn
pub record IsRealProjection (t : Table) (track limit : ℕ) (u : Table) : Type 0 where
  pub marked : Table
  pub table : IsTable marked
  pub breakpoints : IsBreakpointTable t track limit marked
  pub untorn : IsTorn marked → ⊥
  pub form : IsWeakForm marked u

-- the words are those of the breakpoint table, which is torn
pub record IsTornProjection (t : Table) (track limit sign : ℕ) (whole stem accept reject : List ℕ) : Type 0 where
  pub marked : Table
  pub table : IsTable marked
  pub breakpoints : IsBreakpointTable t track limit marked
  pub words : AreTornWords marked sign whole stem accept reject

-- the words of a refusal are those of the projection
abbrev pub TellsTornProjection : Table → ℕ → ℕ → RealError → Type 0
TellsTornProjection t track limit Heavy = Unit {0}
TellsTornProjection t track limit (NotWeak sign whole stem accept reject) = IsTornProjection t track limit sign whole stem accept reject
TellsTornProjection t track limit Memory = Unit {0}
