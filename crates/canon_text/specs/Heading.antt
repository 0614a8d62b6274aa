-- Which headers belong to a table.
use Rattle.std.specs.Prelude.{ℕ, ◌≡◌, ◌↔◌, List, length, All}
use Rattle.lash_model.specs.Formulas.{Sort, Int}
use Rattle.lash_model.specs.Tables.{Table, IsDiagram}

-- the base is the table's, there is a variable for each track, and the table is without fraction states exactly where each
-- variable is an integer
pub record HeadsTable (base : ℕ) (variables : List (List ℕ × Sort)) (t : Table) : Type 0 where
  pub same_base : base ≡ t.base
  pub one_each : length variables ≡ t.tracks
  pub whole : IsDiagram t ↔ All (λ v. v.1 ≡ Int) variables
