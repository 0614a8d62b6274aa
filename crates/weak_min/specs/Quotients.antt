-- The quotient of one part of a table by classes of states that behave alike (Myhill and Nerode), as a machine whose keys are single classes.
use Rattle.std.specs.Prelude.{ℕ, ◌+◌, ◌*◌, ◌<◌, ◌≤◌, ◌≡◌, ◌&&◌, Bool, nat_eq, nat_lt, List, length, slice_index, All}
use Rattle.graph_laws.specs.Exploring.{Steps}
use Rattle.lash_model.specs.Tables.{Table, letters, IsTable, IsDiagram}
use Rattle.canonical_laws.specs.Behaviour.{AreClasses}
use Rattle.part_laws.specs.ClassTables.{class_steps}

-- one part of a table: the number of letters, flat rows of targets, the class of each state, and starts
pub record Classing : Type 0 where
  pub width : ℕ
  pub rows : List ℕ
  pub classes : List ℕ
  pub starts : List ℕ

-- targets, starts and classes are states, and there are no more cells and starts than a table has cells
pub record IsClassing (c : Classing) : Type 0 where
  pub rows_count : length c.rows ≡ length c.classes * c.width
  pub rows_in : All (λ q. q < length c.classes) c.rows
  pub classes_in : All (λ q. q < length c.classes) c.classes
  pub starts_in : All (λ q. q < length c.classes) c.starts
  pub few_cells : length c.classes * (c.width + 1) ≤ 16777216
  pub few_starts : length c.starts ≤ 16777216

-- the key is one state
abbrev pub is_state : ℕ → List ℕ → Bool
is_state states k = nat_eq (length k) 1 && nat_lt (slice_index k 0) states

-- the machine of the classes that are reached from those of the starts
abbrev pub quotient : Classing → Steps
quotient c = class_steps c.width c.rows c.classes c.starts (is_state (length c.classes))

-- the cells of all states, which those of their classes never pass
abbrev pub all_cells : Classing → ℕ
all_cells c = length c.classes * (c.width + 1)

-- whether a list has 1 for the state that the key names
abbrev pub class_says : List ℕ → List ℕ → Bool
class_says bits k = nat_eq (slice_index bits (slice_index k 0)) 1

-- a table, and the class of each of its integer states
pub record Classed : Type 0 where
  pub table : Table
  pub classes : List ℕ

-- a diagram, and classes of its states
pub record IsClassed (c : Classed) : Type 0 where
  pub table : IsTable c.table
  pub diagram : IsDiagram c.table
  pub classes : AreClasses c.table.rows (letters c.table) c.table.outs c.classes

-- the one part of a diagram
abbrev pub classing : Classed → Classing
classing c = record { width = letters c.table; rows = c.table.rows; classes = c.classes; starts = c.table.roots }
