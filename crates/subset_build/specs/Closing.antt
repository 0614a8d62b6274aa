-- How far a sign closure has come: the states that are marked, and those that have been followed.
use Rattle.std.specs.Prelude.{◌≡◌, ℕ, ◌+◌, ◌*◌, ◌^◌, ◌<◌, ◌≤◌, Bool, true, false, List, [], ◌∷◌, ◌++◌, length, slice_index, slice_set, replicate, filter, count_by, All, Contains}
use Rattle.std.specs.List.{slice_index_or, range_with_len}
use Rattle.lash_model.specs.Letters.{sign_letter}
use Rattle.lash_model.specs.Tables.{Table, ints, IsTable}
use Rattle.graph_laws.specs.Exploring.{list_at}
use Rattle.subset_build.specs.Projection.{with_digit, kept, root_over, int_transitions, target, IsSignReached, IsRisingSet}

-- the letters over a kept letter, by rising digit: the first one, and what each further digit adds
pub record AreOver (base count track letter first stride : ℕ) : Type 0 where
  pub each : (d : ℕ) → d < base → first + d * stride ≡ with_digit base count track letter d
  pub below : (d : ℕ) → d < base → first + d * stride < base ^ (count + 1)

-- a mark for each state, and the marked states in the order in which they were found
pub record Marking : Type 0 where
  pub marked : List Bool
  pub states : List ℕ

abbrev pub is_marked : Marking → ℕ → Bool
is_marked m q = slice_index_or m.marked q false

-- the states are the marked ones, each once
pub record IsMarking (m : Marking) : Type 0 where
  pub marks : All (λ q. is_marked m q ≡ true) m.states
  pub found : (q : ℕ) → is_marked m q ≡ true → Contains m.states q
  pub once : length m.states ≡ count_by (λ b. b) m.marked

-- of so many states none is marked
abbrev pub none_marked : ℕ → Marking
none_marked n = record { marked = replicate n false; states = [] }

-- a state is marked, where it was not
abbrev pub met_by : Bool → Marking → ℕ → Marking
met_by true m q = m
met_by false m q = record { marked = slice_set m.marked q true; states = m.states ++ q ∷ [] }

abbrev pub met_state : Marking → ℕ → Marking
met_state m q = met_by (is_marked m q) m q

-- the marked states, rising
abbrev pub marked_states : Marking → List ℕ
marked_states m = filter (is_marked m) (range_with_len 0 (length m.marked))

-- a diagram, one of its tracks, and a sign vector of the others
pub record IsSigned (t : Table) (track sign : ℕ) : Type 0 where
  pub table : IsTable t
  pub track_in : track < t.tracks
  pub sign_in : sign < 2 ^ kept t

-- so many roots are marked, so many states have been followed by all digits of the track, and the next one by some
pub record IsClosing (t : Table) (track sign roots at some : ℕ) (m : Marking) : Type 0 where
  pub count : length m.marked ≡ ints t
  pub sound : All (IsSignReached t track sign) m.states
  pub begun : (b : ℕ) → b < roots → is_marked m (root_over t track sign b) ≡ true
  pub upto : at ≤ length m.states
  pub followed : (i d : ℕ) → i < at → d < t.base → is_marked m (target (int_transitions t) track (sign_letter t.base (kept t) sign) (slice_index m.states i) d) ≡ true
  pub inside : 0 < some → at < length m.states
  pub following : (d : ℕ) → d < some → is_marked m (target (int_transitions t) track (sign_letter t.base (kept t) sign) (slice_index m.states at) d) ≡ true

-- that state is being followed
pub record IsFollowing (t : Table) (track sign at state some : ℕ) (m : Marking) : Type 0 where
  pub closing : IsClosing t track sign 2 at some m
  pub within : at < length m.states
  pub state_is : state ≡ slice_index m.states at

-- the closed sets of the first sign vectors, with marks for all states
pub record AreSetsUpto (t : Table) (track n : ℕ) (sets : List (List ℕ)) (marks : Marking) : Type 0 where
  pub count : length sets ≡ n
  pub each : (sign : ℕ) → sign < n → IsRisingSet (IsSignReached t track sign) (list_at sets sign)
  pub marks_are : length marks.marked ≡ ints t
