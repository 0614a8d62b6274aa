-- The machine of breakpoint states as it is kept.
use Rattle.std.specs.Prelude.{◌≡◌, ℕ, ◌^◌, ◌<◌, Bool, true, false, List, [], ◌∷◌, map, slice_index, All, IsTrue}
use Rattle.graph_laws.specs.Exploring.{KeyTable}
use Rattle.lash_model.specs.Tables.{Table, ints, fracs, IsTable}
use Rattle.subset_build.specs.Projection.{Transitions, kept, is_rising_in}
use Rattle.breakpoint_laws.specs.Breakpoints.{frac_transitions, owing_of}

-- a table, the track that is forgotten, and the explored sets of its integer states
pub record Breaking : Type 0 where
  pub table : Table
  pub track : ℕ
  pub sets : KeyTable

-- the number of letters is that of the kept tracks, the steps are those of the fraction states, and the sets are rising lists
pub record IsBreaking (width states : ℕ) (moves : Transitions) (b : Breaking) : Type 0 where
  pub width_is : width ≡ b.table.base ^ kept b.table
  pub states_are : states ≡ fracs b.table
  pub moves_are : moves ≡ frac_transitions b.table
  pub table_in : IsTable b.table
  pub track_in : b.track < b.table.tracks
  pub fractions : 0 < fracs b.table
  pub proper : All (λ k. IsTrue (is_rising_in 0 (ints b.table) k)) b.sets.keys

-- the outputs of a list of integer states
abbrev pub outputs_of : Table → List ℕ → List ℕ
outputs_of t set = map (λ q. slice_index t.outs q) set

-- whether something is owed in a key
abbrev pub owes : List ℕ → Bool
owes [] = false
owes (q ∷ qs) = true

abbrev pub is_owing : List ℕ → Bool
is_owing key = owes (owing_of key)
