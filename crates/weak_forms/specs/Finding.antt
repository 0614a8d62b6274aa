-- A search of states in the order of their least paths (breadth-first search): the states that were found, in order, and positions in place
-- of states.
use Rattle.std.specs.Prelude.{◌≡◌, ℕ, ◌+◌, ◌*◌, ◌<◌, ◌^◌, List, All, length, slice_get, slice_index, map, if◌then◌else◌}
use Rattle.std.specs.declared.option.Option.TheVariants.{Some}
use Rattle.std.specs.List.{list_any}
use Rattle.graph_laws.specs.Exploring.{KeyTable}
use Rattle.step_tables.specs.Gathering.{same_list, met, Starting, Following}
use Rattle.least_paths.specs.Nets.{Net}
use Rattle.least_paths.specs.Searches.{state_key, row_steps}

-- states in order, the positions of the starts, and in flat rows the positions to which states and letters lead (own)
pub record Placement : Type 0 where
  pub width : ℕ
  pub order : List ℕ
  pub starts : List ℕ
  pub rows : List ℕ

-- the same with the keys of the states (own)
abbrev pub keyed : Placement → KeyTable
keyed p = record { width = p.width; keys = map state_key p.order; cells = length p.order * (p.width + 1); starts = p.starts; rows = p.rows }

-- the found states are states, each has its position, and 32 bits tell all states apart (own)
pub record HavePlaces (order places : List ℕ) : Type 0 where
  pub few : length places < 2 ^ 32
  pub inside : All (λ q. q < length places) order
  pub back : (i : ℕ) → i < length order → slice_index places (slice_index order i) ≡ i

-- a state is met: it has the position, and goes last if it is new (own)
pub record Meets (old new : Placement) (q place : ℕ) : Type 0 where
  pub keys : map state_key new.order ≡ met (map state_key old.order) (state_key q)
  pub cells : length new.order * (new.width + 1) ≡ (if list_any (same_list (state_key q)) (map state_key old.order) then length old.order * (old.width + 1)
      else length old.order * (old.width + 1) + (old.width + 1 + 0))
  pub placed : slice_get (map state_key new.order) place ≡ Some (state_key q)
  pub starts : new.starts ≡ old.starts
  pub rows : new.rows ≡ old.rows
  pub width : new.width ≡ old.width

-- the first starts have been met (own)
abbrev pub AreBegun : Net → ℕ → Placement → Type 0
AreBegun g n p = Starting (row_steps g) n (keyed p)

-- the first states have been followed by all letters, and the next one by some (own)
abbrev pub AreFollowed : Net → ℕ → ℕ → Placement → Type 0
AreFollowed g at letter p = Following (row_steps g) at letter (keyed p)

-- 32 bits tell the found states and the starts apart, and each found state has a row (own)
pub record IsRead (p : Placement) : Type 0 where
  pub few_found : length p.order < 2 ^ 32
  pub few_starts : length p.starts < 2 ^ 32
  pub rows : length p.rows ≡ length p.order * p.width
