-- The machine of sets of states as it is kept, and how far a step of it has come.
use Rattle.std.specs.Prelude.{◌≡◌, ℕ, ◌-◌, ◌*◌, ◌^◌, ◌<◌, ◌≤◌, List, length, map, All, IsTrue}
use Rattle.std.specs.List.{range_with_len, flat_map}
use Rattle.subset_build.specs.Projection.{Transitions, target, is_rising_in}

-- the rows are those of the states, all targets are states, and there are few letters
pub record AreTransitions (m : Transitions) : Type 0 where
  pub base_low : 2 ≤ m.base
  pub few_letters : m.base ^ m.tracks ≤ 4096
  pub rows_count : length m.rows ≡ m.states * m.base ^ m.tracks
  pub rows_in : All (λ q. q < m.states) m.rows

-- where states go, and the track that is forgotten
pub record Forgetting : Type 0 where
  pub moves : Transitions
  pub track : ℕ

-- the track is one of all, and the number of letters is that of all tracks
pub record IsForgetting (letters : ℕ) (f : Forgetting) : Type 0 where
  pub moves : AreTransitions f.moves
  pub track_in : f.track < f.moves.tracks
  pub letters_are : letters ≡ f.moves.base ^ f.moves.tracks

-- the same, and the start sets
pub record Projected : Type 0 where
  pub moves : Transitions
  pub track : ℕ
  pub sets : List (List ℕ)

-- the width is that of the kept tracks, and the start sets are few rising lists of states
pub record IsProjected (width : ℕ) (p : Projected) : Type 0 where
  pub width_is : width ≡ p.moves.base ^ (p.moves.tracks - 1)
  pub few : length p.sets ≤ 4096
  pub proper : All (λ k. IsTrue (is_rising_in 0 p.moves.states k)) p.sets

-- the targets of one state, by rising digit
abbrev pub targets : Transitions → ℕ → ℕ → ℕ → List ℕ
targets m track letter q = map (target m track letter q) (range_with_len 0 m.base)

-- the targets of a set of states, one state's behind another's
abbrev pub targets_of_set : Transitions → ℕ → ℕ → List ℕ → List ℕ
targets_of_set m track letter set = flat_map (targets m track letter) set
