-- How far an exploration has come: the invariants of its loops.
use Rattle.std.specs.Prelude.{◌≡◌, ℕ, ◌+◌, ◌*◌, ◌<◌, ◌≤◌, ◌^◌, Bool, List, [], ◌∷◌, ◌++◌, length, slice_get, slice_index, map, nat_eq, if◌then◌else◌, IsTrue, All}
use Rattle.std.specs.declared.option.Option.TheVariants.{Some}
use Rattle.std.specs.List.{list_any}
use Rattle.std.specs.Cmp.Lexicographic.{pointwise}
use Rattle.graph_laws.specs.Paths.{Path, Before, AtMost, more, start_path, path_at, IsRising}
use Rattle.graph_laws.specs.Exploring.{Steps, KeyTable, list_at, after, IsPath, weigh, IsDistinct}

-- two lists of numbers are equal
abbrev pub same_list : List ℕ → List ℕ → Bool
same_list xs ys = pointwise nat_eq xs ys

-- a key goes last where it is new
abbrev pub met : List (List ℕ) → List ℕ → List (List ℕ)
met ks k = if list_any (same_list k) ks then ks else ks ++ k ∷ []

-- the keys found so far, and a path to each
pub record Gathered (m : Steps) (keys : List (List ℕ)) (cells : ℕ) (paths : List Path) : Type 0 where
  pub distinct : IsDistinct keys
  pub proper : All (λ k. IsTrue (m.is_proper k)) keys
  pub reached : keys ≡ map (after m) paths
  pub valid : All (IsPath m) paths
  pub rising : IsRising paths
  pub weighs : cells ≡ weigh m keys

-- a key's position, and a path that the position's path is at most
pub record Placed (keys : List (List ℕ)) (paths : List Path) (p : ℕ) (k : List ℕ) (c : Path) : Type 0 where
  pub key : slice_get keys p ≡ Some k
  pub least : AtMost (path_at paths p) c

-- the first n starts have positions
pub record Begun (m : Steps) (n : ℕ) (keys : List (List ℕ)) (paths : List Path) (starts : List ℕ) : Type 0 where
  pub count : length starts ≡ n
  pub places : (j : ℕ) → j < n → Placed keys paths (slice_index starts j) (list_at m.starts j) (start_path j)

-- the first n starts have been met
pub record Starting (m : Steps) (n : ℕ) (t : KeyTable) : Type 0 where
  pub width : t.width ≡ m.width
  pub paths : List Path
  pub found : Gathered m t.keys t.cells paths
  pub begun : Begun m n t.keys paths t.starts
  pub behind : All (λ x. Before x (start_path n)) paths
  pub empty : t.rows ≡ []

-- the first keys have been followed by all letters, and the next one by some
pub record Following (m : Steps) (at letter : ℕ) (t : KeyTable) : Type 0 where
  pub width : t.width ≡ m.width
  pub paths : List Path
  pub found : Gathered m t.keys t.cells paths
  pub begun : Begun m (length m.starts) t.keys paths t.starts
  pub behind : at < length t.keys → All (λ x. Before x (more (path_at paths at) letter)) paths
  pub upto : at ≤ length t.keys
  pub count : length t.rows ≡ at * m.width + letter
  pub places : (i l : ℕ) → i < length t.keys → l < m.width → i * m.width + l < length t.rows → Placed t.keys paths (slice_index t.rows (i * m.width + l)) (m.step (list_at t.keys i) l) (more (path_at paths i) l)

-- each key has a row, starts and rows are positions of keys, and the cells are at least one for each key and letter and one more
pub record IsLinked (t : KeyTable) : Type 0 where
  pub few : length t.keys < 2 ^ 32
  pub rows_count : length t.rows ≡ length t.keys * t.width
  pub few_cells : length t.keys * (t.width + 1) ≤ t.cells
  pub starts_in : All (λ p. p < length t.keys) t.starts
  pub rows_in : All (λ p. p < length t.keys) t.rows
