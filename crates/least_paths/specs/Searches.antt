-- Searches of the states of a graph that is given by flat rows: a key is one state.
use Rattle.std.specs.Prelude.{ℕ, ◌+◌, ◌*◌, ◌<◌, ◌≤◌, ◌^◌, ◌≡◌, Bool, ◌&&◌, nat_eq, nat_lt, IsTrue, List, [], ◌∷◌, All, length, slice_index, map}
use Rattle.graph_laws.specs.Exploring.{Steps, KeyTable, list_at}
use Rattle.least_paths.specs.Nets.{Net}

-- rows have a target for each state and letter, starts and targets are states, 32 bits tell the starts apart, and the cells, one more than
-- the letters for each state, are at most 16,777,216 (own)
pub record IsSearch (g : Net) : Type 0 where
  pub count : length g.rows ≡ g.states * g.width
  pub starts_in : All (λ q. q < g.states) g.starts
  pub rows_in : All (λ q. q < g.states) g.rows
  pub few_starts : length g.starts < 2 ^ 32
  pub few_cells : g.states * (g.width + 1) ≤ 16777216

-- the key of a state (own)
abbrev pub state_key : ℕ → List ℕ
state_key q = q ∷ []

-- the key is one state (own)
abbrev pub is_state : ℕ → List ℕ → Bool
is_state states k = nat_eq (length k) 1 && nat_lt (slice_index k 0) states

-- the machine of the states (own)
abbrev pub row_steps : Net → Steps
row_steps g = record {
  width = g.width;
  starts = map state_key g.starts;
  step = λ k l. state_key (slice_index g.rows (slice_index k 0 * g.width + l));
  weight = λ _. 0;
  is_proper = is_state g.states;
}

-- all keys are states (own)
abbrev pub HaveStates : ℕ → KeyTable → Type 0
HaveStates states k = All (λ key. IsTrue (is_state states key)) k.keys

-- the state whose key is at a position (own)
abbrev pub state_at : KeyTable → ℕ → ℕ
state_at k i = slice_index (list_at k.keys i) 0

-- the first position of a state (own)
pub record IsFirstPlace (k : KeyTable) (q i : ℕ) : Type 0 where
  pub inside : i < length k.keys
  pub is : state_at k i ≡ q
  pub first : (j : ℕ) → j < i → state_at k j ≡ q → ⊥
