-- Exploration of the states of a machine, which are named by keys, lists of numbers (breadth-first search).
use Rattle.std.specs.Prelude.{◌≡◌, ℕ, ◌+◌, ◌-◌, ◌*◌, ◌<◌, ◌≤◌, Bool, List, [], ◌∷◌, length, slice_get, slice_index, map, IsTrue, All}
use Rattle.std.specs.declared.option.Option.TheVariants.{Some}
use Rattle.std.specs.List.{slice_index_or, AllPairs}
use Rattle.graph_laws.specs.Walks.{go}
use Rattle.graph_laws.specs.Paths.{Path, AtMost, path_at, IsRising}

-- what a machine means: the number of letters, the keys of the starts, the key behind a key and a letter, the weight of a key, and
-- which keys are proper
pub record Steps : Type 0 where
  pub width : ℕ
  pub starts : List (List ℕ)
  pub step : List ℕ → ℕ → List ℕ
  pub weight : List ℕ → ℕ
  pub is_proper : List ℕ → Bool

-- the key at a place of a list
abbrev pub list_at : List (List ℕ) → ℕ → List ℕ
list_at xs i = slice_index_or xs i []

-- the key after a word
abbrev pub led : (List ℕ → ℕ → List ℕ) → List ℕ → List ℕ → List ℕ
led step k [] = k
led step k (l ∷ w) = led step (step k l) w

-- the key after a path
abbrev pub after : Steps → Path → List ℕ
after m p = led m.step (list_at m.starts p.start) p.word

-- a start and letters that the machine has
pub record IsPath (m : Steps) (p : Path) : Type 0 where
  pub start : p.start < length m.starts
  pub letters : All (λ l. l < m.width) p.word

-- a path leads to the key
pub record IsReached (m : Steps) (k : List ℕ) : Type 0 where
  pub path : Path
  pub valid : IsPath m path
  pub leads : after m path ≡ k

-- the cells of a key: one for each letter, one more, and its weight
abbrev pub cells_of : Steps → List ℕ → ℕ
cells_of m k = m.width + 1 + m.weight k

-- the cells of all keys of a list
abbrev pub weigh : Steps → List (List ℕ) → ℕ
weigh m [] = 0
weigh m (k ∷ ks) = cells_of m k + weigh m ks

-- no key stands twice
abbrev pub IsDistinct : List (List ℕ) → Type 0
IsDistinct ks = AllPairs (λ x y. x ≡ y → ⊥) ks

-- distinct reached keys weigh more than the limit
pub record IsHeavy (m : Steps) (limit : ℕ) : Type 0 where
  pub keys : List (List ℕ)
  pub distinct : IsDistinct keys
  pub reached : All (IsReached m) keys
  pub over : limit < weigh m keys

-- the second of two machines, which starts at the key to which each key of the first leads
abbrev pub led_by : (List ℕ → List ℕ) → Steps → List (List ℕ) → Steps
led_by lead b keys = record b { starts = map lead keys }

-- distinct reached keys of the first of two machines, and of the second as those keys lead to it, together weigh more than the limit
pub record IsHeavyInTwo (a : Steps) (lead : List ℕ → List ℕ) (b : Steps) (limit : ℕ) : Type 0 where
  pub keys : List (List ℕ)
  pub other_keys : List (List ℕ)
  pub distinct : IsDistinct keys
  pub other_distinct : IsDistinct other_keys
  pub reached : All (IsReached a) keys
  pub other_reached : All (IsReached (led_by lead b keys)) other_keys
  pub over : limit < weigh a keys + weigh b other_keys

-- keys, the sum of their cells, and positions for the starts and, in flat rows of one entry a letter, for each key and letter
pub record KeyTable : Type 0 where
  pub width : ℕ
  pub keys : List (List ℕ)
  pub cells : ℕ
  pub starts : List ℕ
  pub rows : List ℕ

-- the position after a path
abbrev pub position : KeyTable → Path → ℕ
position t p = go t.rows t.width (slice_index t.starts p.start) p.word

-- exactly the reached keys, each once, numbered by their least paths
pub record IsExplored (m : Steps) (limit : ℕ) (t : KeyTable) : Type 0 where
  pub width : t.width ≡ m.width
  pub distinct : IsDistinct t.keys
  pub proper : All (λ k. IsTrue (m.is_proper k)) t.keys
  pub weighs : t.cells ≡ weigh m t.keys
  pub within : t.cells ≤ limit
  pub starts_count : length t.starts ≡ length m.starts
  pub begins : (j : ℕ) → j < length m.starts → slice_get t.keys (slice_index t.starts j) ≡ Some (list_at m.starts j)
  pub rows_count : length t.rows ≡ length t.keys * t.width
  pub leads : (i l : ℕ) → i < length t.keys → l < t.width → slice_get t.keys (slice_index t.rows (i * t.width + l)) ≡ Some (m.step (list_at t.keys i) l)
  -- every path's key stands at the path's position
  pub complete : (p : Path) → IsPath m p → slice_get t.keys (position t p) ≡ Some (after m p)
  -- the least path to each key
  pub paths : List Path
  pub reached : t.keys ≡ map (after m) paths
  pub valid : All (IsPath m) paths
  pub rising : IsRising paths
  pub least : (p : Path) → IsPath m p → AtMost (path_at paths (position t p)) p

-- exactly the reached keys of the first machine, and of the second as they lead to it, which gets what the first left of the limit
pub record IsExploredInTwo (a : Steps) (lead : List ℕ → List ℕ) (b : Steps) (limit : ℕ) (t u : KeyTable) : Type 0 where
  pub first_part : IsExplored a limit t
  pub second_part : IsExplored (led_by lead b t.keys) (limit - t.cells) u
