-- What a breadth-first search walks over: states with starts and steps.
use Rattle.std.specs.Prelude.{ℕ, ◌+◌, ◌*◌, ◌<◌, List, length, slice_index}
use Rattle.graph_laws.specs.Paths.{Path}
use Rattle.graph_laws.specs.Exploring.{KeyTable}
use Rattle.lash_model.specs.Tables.{Table, letters, ints}
use Rattle.canonical_laws.specs.Canonical.{walked, IsNumbered}

-- a list of starts, flat rows of targets, the number of letters, and the number of states (own)
pub record Net : Type 0 where
  pub starts : List ℕ
  pub rows : List ℕ
  pub width : ℕ
  pub states : ℕ

-- the state after a state and a letter (own)
abbrev pub target : Net → ℕ → ℕ → ℕ
target g q l = slice_index g.rows (q * g.width + l)

-- the state after a path (own)
abbrev pub end_of : Net → Path → ℕ
end_of g p = walked g.starts g.rows g.width p

-- starts and targets are states (own)
pub record IsClosed (g : Net) : Type 0 where
  pub starts_in : (j : ℕ) → j < length g.starts → slice_index g.starts j < g.states
  pub targets_in : (q l : ℕ) → q < g.states → l < g.width → slice_index g.rows (q * g.width + l) < g.states

-- starts and targets are states, and states are numbered by their least paths (own; the order of breadth-first search)
pub record IsOrdered (g : Net) : Type 0 where
  pub closed : IsClosed g
  pub numbered : IsNumbered g.starts g.rows g.width g.states

-- the integer part of a table, from its roots (own)
abbrev pub int_net : Table → Net
int_net t = record { starts = t.roots; rows = t.rows; width = letters t; states = ints t }

-- the positions of what was explored (own)
abbrev pub found_net : KeyTable → Net
found_net k = record { starts = k.starts; rows = k.rows; width = k.width; states = length k.keys }
