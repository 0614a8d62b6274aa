-- How states are arrived at: by starts and by steps, the first of each, and by least paths (breadth-first search).
use Rattle.std.specs.Prelude.{ℕ, ◌+◌, ◌<◌, ◌≤◌, ◌≡◌, ◌⊎◌, List, length, slice_index}
use Rattle.graph_laws.specs.Paths.{Path, AtMost}
use Rattle.canonical_laws.specs.Canonical.{IsPathOf}
use Rattle.least_paths.specs.Nets.{Net, target, end_of}

-- no start is the state (own)
abbrev pub IsNoStart : Net → ℕ → Type 0
IsNoStart g q = (start : ℕ) → start < length g.starts → slice_index g.starts start ≡ q → ⊥

-- the first start that is the state (own)
pub record IsFirstStart (g : Net) (q start : ℕ) : Type 0 where
  pub inside : start < length g.starts
  pub leads : slice_index g.starts start ≡ q
  pub first : (other : ℕ) → other < start → slice_index g.starts other ≡ q → ⊥

-- a letter leads from the one state to the other (own)
pub record HasLetter (g : Net) (from to : ℕ) : Type 0 where
  pub letter : ℕ
  pub inside : letter < g.width
  pub leads : target g from letter ≡ to

-- the first letter that does (own)
pub record IsFirstLetter (g : Net) (from to letter : ℕ) : Type 0 where
  pub inside : letter < g.width
  pub leads : target g from letter ≡ to
  pub first : (other : ℕ) → other < letter → target g from other ≡ to → ⊥

-- the parent is at most the other state, and a letter leads from it to the state (own)
pub record IsParent (g : Net) (parent other q : ℕ) : Type 0 where
  pub low : parent ≤ other
  pub step : HasLetter g parent q

-- each state has its parent, as far as steps from states from that one on tell, and those of the one before by the first letters (own)
pub record AreParents (g : Net) (from letter : ℕ) (parents : List ℕ) : Type 0 where
  pub count : length parents ≡ g.states
  pub each : (p l : ℕ) → p < g.states → l < g.width → (from ≤ p) ⊎ ((p + 1 ≡ from) × (l < letter))
      → IsParent g (slice_index parents (target g p l)) p (target g p l)

-- the least path to the state (breadth-first search)
pub record IsLeastTo (g : Net) (q : ℕ) (p : Path) : Type 0 where
  pub valid : IsPathOf g.starts g.width p
  pub leads : end_of g p ≡ q
  pub least : (x : Path) → IsPathOf g.starts g.width x → end_of g x ≡ q → AtMost p x
